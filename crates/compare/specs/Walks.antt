-- What the contracts cite beside the meaning: two tables walked side by side, row by row.
use Rattle.std.specs.Prelude.{ℕ, zero, suc, ◌+◌, ◌*◌, ◌≤◌, ◌<◌, ◌≡◌, Bool, true, false, List, [], length, get_or, eqb, map}
use Rattle.std.proofs.Math.Option.{Option, none, some}
use Rattle.format.specs.Choice.{both, if_lt, if_eq}
use Rattle.format.specs.Bits.{words_for}
use Rattle.format.specs.Items.{Items}
use Rattle.format.specs.Tables.{count, items_of}
use Rattle.table.specs.Rows.{kind_at, a_at, b_at, rows_of, next_row, Stands, items_at, Room}
use Rattle.compare.specs.Differences.{Difference, differences, changes}
use Rattle.compare.specs.declared.walk.Pair.{Pair}
use Rattle.compare.specs.declared.walk.Apart.{Apart}

-- ---- two rows by themselves
-- n words of the one table from i on are those of the other from j on
unfoldable pub same_words : List ℕ → List ℕ → ℕ → ℕ → ℕ → Bool
unfolding both
same_words w v i j zero = true
same_words w v i j (suc n) = both (same_words w v i j n) (eqb (get_or w (i + n) 0) (get_or v (j + n) 0))

-- the word where the data of the row p begins
abbrev pub data_from : List ℕ → ℕ → ℕ
data_from w p = 3 * rows_of w + 4 + b_at w p

-- the row p is there, and n data words of it
pub record DataIn (w : List ℕ) (p n : ℕ) : Type 0 where
  pub row : 3 * p + 7 ≤ length w
  pub fits : data_from w p + n ≤ length w
  pub few : rows_of w ≤ 16384

-- The rows p and q are of one kind and have the same a, and by the kind the same data words or the same b. What is beneath two
-- containers stands in rows of its own.
unfoldable pub alike_for : ℕ → List ℕ → List ℕ → ℕ → ℕ → Bool
unfolding if_lt if_eq same_words words_for
alike_for k w v p q =
    if_lt k 7
    (if_eq k 2 (same_words w v (data_from w p) (data_from v q) (words_for (a_at w p))) (eqb (b_at w p) (b_at v q)))
    (if_eq k 9 (same_words w v (data_from w p) (data_from v q) (words_for (8 * a_at w p))) true)

unfoldable pub rows_alike : List ℕ → List ℕ → ℕ → ℕ → Bool
unfolding if_eq alike_for
rows_alike w v p q = if_eq (kind_at w p) (kind_at v q) (if_eq (a_at w p) (a_at v q) (alike_for (kind_at w p) w v p q) false) false

-- ---- the walk
-- what two tables differ in; words that are none differ in nothing
unfoldable pub changes_for : Option Items → Option Items → List Difference
unfolding changes
changes_for none y = []
changes_for (some xs) none = []
changes_for (some xs) (some ys) = changes xs ys

unfoldable pub changes_of : List ℕ → List ℕ → List Difference
unfolding changes_for items_of
changes_of w v = changes_for (items_of w) (items_of v)

-- Before the rows p and q all is told but the differences `rest`. From these rows on, as many items stand in both tables, whatever
-- containers they are in.
pub record Walk (w v : List ℕ) (p q : ℕ) (rest : List Difference) : Type 0 where
  pub d : ℕ
  pub e : ℕ
  pub xs : Items
  pub ys : Items
  pub left : Stands w d p (rows_of w) xs
  pub right : Stands v e q (rows_of v) ys
  pub number : count xs ≡ count ys
  pub told : rest ≡ differences p q xs ys

-- so it is for some differences
pub record Going (w v : List ℕ) (p q : ℕ) : Type 0 where
  pub rest : List Difference
  pub walk : Walk w v p q rest

-- and the row p is there
pub record Here (w v : List ℕ) (p q : ℕ) : Type 0 where
  pub going : Going w v p q
  pub row : p < rows_of w

-- the items of the rows p and q have all their rows
pub record InRows (w v : List ℕ) (p q : ℕ) : Type 0 where
  pub left : Room w (p + 1) (next_row w p)
  pub right : Room v (q + 1) (next_row v q)

-- what is told of the rows p and q and of those behind them
abbrev pub changes_left : List ℕ → List ℕ → ℕ → ℕ → List Difference
changes_left w v p q = differences p q (items_at w p (rows_of w)) (items_at v q (rows_of v))

-- ---- the walk, as the code has it
abbrev pub pair_of : Difference → Pair
pair_of c = record { left = c.left; right = c.right }

-- the pairs that are still to come
abbrev pub pairs_left : Apart → List Pair
pairs_left s = map pair_of (changes_left s.left.now s.right.now s.at.left s.at.right)

abbrev pub Walking : Apart → Type 0
Walking s = Going s.left.now s.right.now s.at.left s.at.right

abbrev pub Standing : Apart → Type 0
Standing s = Here s.left.now s.right.now s.at.left s.at.right

-- from a to b the walk went on in the same tables with nothing told
pub record Onward (a b : Apart) : Type 0 where
  pub left : b.left ≡ a.left
  pub right : b.right ≡ a.right
  pub going : Walking b
  pub rest : changes_left b.left.now b.right.now b.at.left b.at.right ≡ changes_left a.left.now a.right.now a.at.left a.at.right

-- and the rows there are not alike, unless all are behind them
pub record Skipped (a b : Apart) : Type 0 where
  pub onward : Onward a b
  pub apart : b.at.left < rows_of b.left.now → rows_alike b.left.now b.right.now b.at.left b.at.right ≡ false

-- both are tables
pub record BothTables (w v : List ℕ) : Type 0 where
  pub xs : Items
  pub ys : Items
  pub left : items_of w ≡ some xs
  pub right : items_of v ≡ some ys
