-- Worked examples, each two lists of items as a person would write them, and what changed from the one to the other.
use Rattle.std.specs.Prelude.{pos, ◌≡◌, List, [], ◌∷◌}
use Rattle.format.specs.Items.{int, empty, struc, edt, Items, end, leaf, group, text}
use Rattle.format.specs.Examples.{ints}
use Rattle.compare.specs.Differences.{Difference, difference, changes}

pub record Sheets : Type 0 where
  pub left : Items
  pub right : Items
  pub told : List Difference

unfoldable pub sheets : List Sheets
unfolding ints text
sheets =
    -- (1 2 3) and (1 2 3): nothing
    record { left = group struc (ints (1 ∷ 2 ∷ 3 ∷ [])) end; right = group struc (ints (1 ∷ 2 ∷ 3 ∷ [])) end; told = [] }
    -- (1 2 3) and (1 EMPTY 3)
    ∷ record { left = group struc (ints (1 ∷ 2 ∷ 3 ∷ [])) end; right = group struc (leaf (int (pos 1)) (leaf empty (ints (3 ∷ [])))) end; told = difference 2 2 ∷ [] }
    -- (1 2) and (1 2 3): other elements, other number of them, one difference
    ∷ record { left = group struc (ints (1 ∷ 2 ∷ [])) end; right = group struc (ints (1 ∷ 2 ∷ 3 ∷ [])) end; told = difference 0 0 ∷ [] }
    -- (1 2) and an EDT of 1 and 2
    ∷ record { left = group struc (ints (1 ∷ 2 ∷ [])) end; right = group edt (ints (1 ∷ 2 ∷ [])) end; told = difference 0 0 ∷ [] }
    -- "AB" and "AC"
    ∷ record { left = group struc (text (65 ∷ 66 ∷ [])) end; right = group struc (text (65 ∷ 67 ∷ [])) end; told = difference 0 0 ∷ [] }
    -- "A" and (1)
    ∷ record { left = group struc (text (65 ∷ [])) end; right = group struc (ints (1 ∷ [])) end; told = difference 0 0 ∷ [] }
    -- ((1 2) 3) and (5 4): behind the first difference the rows of the two tables are no longer the same
    ∷ record { left = group struc (group struc (ints (1 ∷ 2 ∷ [])) (ints (3 ∷ []))) end; right = group struc (ints (5 ∷ 4 ∷ [])) end; told = difference 1 1 ∷ difference 4 2 ∷ [] }
    -- 1 2 and (1): other numbers of outermost items, R of each
    ∷ record { left = ints (1 ∷ 2 ∷ []); right = group struc (ints (1 ∷ [])) end; told = difference 2 2 ∷ [] }
    ∷ []

abbrev pub Hold : List Sheets → Type 0
Hold [] = Unit {0}
Hold (s ∷ l) = (changes s.left s.right ≡ s.told) × Hold l
