-- What changed from one table to another: "Items are matched by position."
use Rattle.std.specs.Prelude.{ℕ, ◌+◌, ◌/◌, Bool, not, List, [], ◌∷◌, ◌++◌, length, eqb}
use Rattle.std.proofs.Math.Option.{Option, none, some}
use Rattle.format.specs.Choice.{pick, both, if_lt, if_eq}
use Rattle.format.specs.Refusals.{not_a_table, list_short}
use Rattle.format.specs.Items.{Group, Items, end, leaf, group, one}
use Rattle.format.specs.Same.{if_same}
use Rattle.format.specs.Tables.{count, rows, is_text, container_kind, items_of}
use Rattle.format.specs.Answers.{over}

-- a difference, "told by its row in each table"
pub record Difference : Type 0 where
  pub left : ℕ
  pub right : ℕ

abbrev pub difference : ℕ → ℕ → Difference
difference p q = record { left = p; right = q }

-- "Two STRUCs, or two EDTs, with the same number of direct elements are gone into"; but Ask 7: "The compare takes an unequal pair
-- with a string in it as one difference."
unfoldable pub gone_into : Group → Items → Group → Items → Bool
unfolding both is_text container_kind count
gone_into g c h d =
    both (not (is_text g c)) (both (not (is_text h d)) (both (eqb (container_kind g) (container_kind h)) (eqb (count c) (count d))))

-- "any other unequal pair is one difference": x and y are the items of the rows p and q, each as a list of one
unfoldable pub unequal : ℕ → ℕ → Items → Items → List Difference
unfolding if_same
unequal p q x y = if_same x y [] (difference p q ∷ [])

-- xs stands from row p of the one table on, and ys, as many items, from row q of the other
unfoldable pub differences : ℕ → ℕ → Items → Items → List Difference
unfolding pick gone_into unequal rows
differences p q end ys = []
differences p q (leaf l xs) end = []
differences p q (leaf l xs) (leaf m ys) = unequal p q (one l) (one m) ++ differences (p + 1) (q + 1) xs ys
differences p q (leaf l xs) (group h d ys) =
    unequal p q (one l) (group h d end) ++ differences (p + 1) (q + rows (group h d end)) xs ys
differences p q (group g c xs) end = []
differences p q (group g c xs) (leaf m ys) =
    unequal p q (group g c end) (one m) ++ differences (p + rows (group g c end)) (q + 1) xs ys
differences p q (group g c xs) (group h d ys) =
    let inside = differences (p + 1) (q + 1) c d in
    pick (gone_into g c h d) inside (unequal p q (group g c end) (group h d end))
    ++ differences (p + rows (group g c end)) (q + rows (group h d end)) xs ys

-- "Rows are counted from 0. If the outermost counts differ, that is the one difference, told as row R of each table."
unfoldable pub changes : Items → Items → List Difference
unfolding if_eq count rows differences
changes xs ys =
    let each = differences 0 0 xs ys in
    if_eq (count xs) (count ys) each (difference (rows xs) (rows ys) ∷ [])

-- "A list lent is of 64-bit words, an entry's numbers in the order told"
unfoldable pub entries : List Difference → List ℕ
entries [] = []
entries (c ∷ l) = c.left ∷ c.right ∷ entries l

-- The answer: "its length, and the need told with every 16, count entries". The list is the lent one afterwards.
pub record Comparing : Type 0 where
  pub number : ℕ
  pub entries : ℕ
  pub list : List ℕ

abbrev pub answered : ℕ → ℕ → List ℕ → Comparing
answered why n t = record { number = why; entries = n; list = t }

-- "then 16 if the lent list is too short"; "With 0, the length of each .. list .. written is answered, and nothing past it changes. A
-- refusal leaves all that is lent untouched". A list has room for as many entries as fit whole.
unfoldable pub differing : List Difference → List ℕ → Comparing
unfolding if_lt over entries
differing l t = if_lt (length t / 2) (length l) (answered list_short (length l) t) (answered 0 (length l) (over (entries l) t))

unfoldable pub comparing_of : Option Items → Option Items → List ℕ → Comparing
unfolding changes differing
comparing_of none b t = answered not_a_table 0 t
comparing_of (some xs) none t = answered not_a_table 0 t
comparing_of (some xs) (some ys) t = differing (changes xs ys) t

-- "Refusals: 12 for either table, then 16"
unfoldable pub comparing : List ℕ → List ℕ → List ℕ → Comparing
unfolding comparing_of items_of
comparing w v t = comparing_of (items_of w) (items_of v) t
