-- What the survey of a table finds: rows that are those of items, the length of their normal form, and the data words that are theirs.
use Rattle.std.specs.Prelude.{ℕ, ◌+◌, ◌-◌, ◌≤◌, ◌<◌, max, ◌≡◌, List, length}
use Rattle.std.specs.Prelude.{Option, Some, None, Result, Ok, Err}
use Rattle.writer.specs.declared.survey.Surveyed.{Surveyed}
use Rattle.writer.specs.declared.survey.Unfit.{Unfit}
use Rattle.writer.specs.declared.survey.Unfit.TheVariants.{Wrong, Deep}
use Rattle.writer.specs.declared.survey.Leaves.{Leaves}
use Rattle.writer.specs.declared.place.Place.{Place}
use Rattle.format.specs.Items.{Items}
use Rattle.format.specs.Tables.{count, data_words}
use Rattle.format.specs.Normal.{normal, depth}
use Rattle.table.specs.Rows.{kind_at, a_at, b_at, words_of, Stands, next_row}

-- ---- rows alike
pub record Small (w : List ℕ) (k m i : ℕ) : Type 0 where
  pub kind : kind_at w i ≡ k
  pub none : a_at w i ≡ 0
  pub low : b_at w i < m

-- the rows p up to q, before e, have the kind k, nothing in the second word, and a last word below m
pub record SmallRows (w : List ℕ) (k m p e q : ℕ) : Type 0 where
  pub start : p ≤ q
  pub within : q ≤ e
  pub each : (i : ℕ) → p ≤ i → i < q → Small w k m i

-- ---- items at a place
-- xs stand in the rows p up to e, where u data words come before, and theirs are among the first D
pub record RowsPlaced (w : List ℕ) (D u p e : ℕ) (xs : Items) : Type 0 where
  pub stands : Stands w u p e xs
  pub fits : u + length (data_words xs) ≤ D

-- the items from p up to e, where c items of n bytes, at most d deep, come before ys
pub record Longer (w : List ℕ) (D d u p e v c n : ℕ) (ys : Items) : Type 0 where
  pub items : Items
  pub placed : RowsPlaced w D u p e items
  pub number : count items ≡ c + count ys
  pub size : length (normal items) ≡ n + length (normal ys)
  pub words : u + length (data_words items) ≡ v + length (data_words ys)
  pub shallow : depth items ≤ max d (depth ys)

-- those of xs that stand from q up to e
pub record Shorter (w : List ℕ) (D v q e : ℕ) (xs : Items) : Type 0 where
  pub items : Items
  pub placed : RowsPlaced w D v q e items
  pub shallow : depth items ≤ depth xs

-- the rows p up to q are those of c items, at most d deep, whose normal form has n bytes and whose data words are those from u up
-- to v: with whatever stands behind them, up to any e, they make items, and items that stand from p on go on there
pub record RowsPassed (w : List ℕ) (D d u p v q c n : ℕ) : Type 0 where
  pub onward : p ≤ q
  pub fits : v ≤ D
  pub forth : (e : ℕ) (ys : Items) → RowsPlaced w D v q e ys → Longer w D d u p e v c n ys
  pub back : (e : ℕ) (xs : Items) → q ≤ e → RowsPlaced w D u p e xs → Shorter w D v q e xs

-- no items stand there; or only such as are more than d deep
abbrev pub NoItems : List ℕ → ℕ → ℕ → ℕ → ℕ → Type 0
NoItems w D u p e = (xs : Items) → RowsPlaced w D u p e xs → ⊥

abbrev pub TooDeep : List ℕ → ℕ → ℕ → ℕ → ℕ → ℕ → Type 0
TooDeep w D d u p e = (xs : Items) → RowsPlaced w D u p e xs → d < depth xs

-- ---- what the answers of the code say, where u data words come before the row p
abbrev pub LeavesSurveyed : List ℕ → ℕ → ℕ → ℕ → Option Leaves → Type 0
LeavesSurveyed w u p e None = NoItems w (words_of w) u p e
LeavesSurveyed w u p e (Some l) = (p < l.next) × (l.next ≤ e) × RowsPassed w (words_of w) 0 u p l.base l.next (l.next - p) l.bytes

-- why there are no items up to e that have a normal form
abbrev pub Unsurveyed : List ℕ → ℕ → ℕ → ℕ → ℕ → Unfit → Type 0
Unsurveyed w d u p e Wrong = NoItems w (words_of w) u p e
Unsurveyed w d u p e Deep = TooDeep w (words_of w) d u p e

abbrev pub RunSurveyed : List ℕ → ℕ → ℕ → ℕ → ℕ → Result Surveyed Unfit → Type 0
RunSurveyed w d u p e (Err x) = Unsurveyed w d u p e x
RunSurveyed w d u p e (Ok s) = RowsPassed w (words_of w) d u p s.base e s.items s.bytes

-- a container's row p and its elements, before e
abbrev pub ContainerSurveyed : List ℕ → ℕ → ℕ → ℕ → ℕ → Result Surveyed Unfit → Type 0
ContainerSurveyed w d u p e (Err x) = Unsurveyed w d u p e x
ContainerSurveyed w d u p e (Ok s) = (p + 1 ≤ next_row w p) × (next_row w p ≤ e) × RowsPassed w (words_of w) d u p s.base (next_row w p) s.items s.bytes

-- at a place
abbrev pub LeavesAt : Place → Option Leaves → Type 0
LeavesAt at r = LeavesSurveyed at.table.words.now at.base at.p at.to r

abbrev pub ContainerAt : ℕ → Place → Result Surveyed Unfit → Type 0
ContainerAt d at r = ContainerSurveyed at.table.words.now d at.base at.p at.to r
