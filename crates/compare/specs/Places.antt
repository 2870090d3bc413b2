-- The words of the theorems about what changed: the places of items, and what two lists have at one place. A place is which of the
-- outermost items, then which of its elements, and so on inward, all counted from 0: a number k, and then the list i.
use Rattle.std.specs.Prelude.{ℕ, zero, suc, ◌+◌, ◌≤◌, ◌<◌, ◌≡◌, ◌≢◌, ◌⊎◌, Bool, true, false, List, [], ◌∷◌, ◌++◌, map}
use Rattle.std.proofs.Math.Option.{Option, none, some}
use Rattle.format.specs.Items.{Items, end, leaf, group, one}
use Rattle.format.specs.Tables.{rows}
use Rattle.table.specs.Rows.{rows_of, items_at}
use Rattle.compare.specs.Differences.{Difference, difference, gone_into, changes}

-- the item at a place, as a list of one
unfoldable pub item_at : ℕ → List ℕ → Items → Option Items
item_at k i end = none
item_at zero [] (leaf l xs) = some (one l)
item_at zero (j ∷ i) (leaf l xs) = none
item_at (suc k) i (leaf l xs) = item_at k i xs
item_at zero [] (group g c xs) = some (group g c end)
item_at zero (j ∷ i) (group g c xs) = item_at j i c
item_at (suc k) i (group g c xs) = item_at k i xs

-- its row, the first item's being 0. A string's characters have none: what stands here for them makes no difference.
unfoldable pub row_at : ℕ → List ℕ → Items → ℕ
unfolding rows
row_at k i end = 0
row_at zero i (leaf l xs) = 0
row_at (suc k) i (leaf l xs) = 1 + row_at k i xs
row_at zero [] (group g c xs) = 0
row_at zero (j ∷ i) (group g c xs) = 1 + row_at j i c
row_at (suc k) i (group g c xs) = rows (group g c end) + row_at k i xs

-- two items, each as a list of one, are gone into
unfoldable pub entered : Items → Items → Bool
unfolding gone_into
entered end y = false
entered (leaf l xs) y = false
entered (group g c xs) end = false
entered (group g c xs) (leaf m ys) = false
entered (group g c xs) (group h d ys) = gone_into g c h d

-- both lists have an item at a place, and the two are gone into
pub record EnteredAt (xs ys : Items) (k : ℕ) (i : List ℕ) : Type 0 where
  pub x : Items
  pub y : Items
  pub left : item_at k i xs ≡ some x
  pub right : item_at k i ys ≡ some y
  pub into : entered x y ≡ true

-- two lists part ways at a place: what they have there is not the same, or only one has anything, and it is not gone into
pub record PartAt (xs ys : Items) (k : ℕ) (i : List ℕ) : Type 0 where
  pub unlike : item_at k i xs ≢ item_at k i ys
  pub shut : EnteredAt xs ys k i → ⊥

-- a place where a difference is due: both have an item there, the two part ways, and all pairs around it are gone into
pub record DueAt (xs ys : Items) (k : ℕ) (i : List ℕ) : Type 0 where
  pub x : Items
  pub y : Items
  pub left : item_at k i xs ≡ some x
  pub right : item_at k i ys ≡ some y
  pub part : PartAt xs ys k i
  pub around : (a b : List ℕ) (j : ℕ) → a ++ (j ∷ b) ≡ i → EnteredAt xs ys k a

-- the difference at a place, where the lists stand from the rows p and q on
abbrev pub difference_at : ℕ → ℕ → Items → Items → ℕ → List ℕ → Difference
difference_at p q xs ys k i = difference (p + row_at k i xs) (q + row_at k i ys)

-- a difference is one of a list
abbrev pub Among : Difference → List Difference → Type 0
Among c [] = ⊥
Among c (e ∷ l) = (c ≡ e) ⊎ Among c l

-- what a difference tells: the rows of the two items at a place where one is due, the lists standing from the rows p and q on
pub record DueFor (p q : ℕ) (xs ys : Items) (c : Difference) : Type 0 where
  pub k : ℕ
  pub i : List ℕ
  pub due : DueAt xs ys k i
  pub is : c ≡ difference_at p q xs ys k i

-- a place is one where a difference is due, or lies inside one, and that difference is told
pub record Under (xs ys : Items) (k : ℕ) (i : List ℕ) : Type 0 where
  pub a : List ℕ
  pub b : List ℕ
  pub begins : a ++ b ≡ i
  pub due : DueAt xs ys k a
  pub told : Among (difference_at 0 0 xs ys k a) (changes xs ys)

-- the rows of a table from r on are those of the item x, and the table has them
pub record HoldsAt (w : List ℕ) (r : ℕ) (x : Items) : Type 0 where
  pub inside : r + rows x ≤ rows_of w
  pub is : items_at w r (r + rows x) ≡ x

-- the rows that a difference names hold an item in each table; the two are not the same, and are not gone into
pub record Apart (w v : List ℕ) (c : Difference) : Type 0 where
  pub x : Items
  pub y : Items
  pub left : HoldsAt w c.left x
  pub right : HoldsAt v c.right y
  pub unlike : x ≢ y
  pub shut : entered x y ≡ false

-- "in row order": each difference stands in later rows of both tables than the one before it, the first in rows from p and q on, and
-- all in rows before a and b
abbrev pub Rising : ℕ → ℕ → ℕ → ℕ → List Difference → Type 0
Rising p q a b [] = Unit {0}
Rising p q a b (c ∷ l) =
    (p ≤ c.left) × (q ≤ c.right) × (c.left < a) × (c.right < b) × Rising (suc c.left) (suc c.right) a b l

-- the pairs turned round
unfoldable pub turned : List Difference → List Difference
turned l = map (λ (c : Difference). difference c.right c.left) l
