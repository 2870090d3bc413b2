-- The line of one row of a table, in the parts that the code writes one by one.
use Rattle.std.specs.Prelude.{ℕ, ◌+◌, ◌*◌, ◌≤◌, ◌<◌, ◌≡◌, Bool, List, [], ◌∷◌, ◌++◌, length}
use Rattle.format.specs.Choice.{if_lt, if_eq}
use Rattle.format.specs.Bits.{bit}
use Rattle.format.specs.Tables.{codes}
use Rattle.format.specs.Items.{Leaf, int, bits, char, bool, empty, xtra}
use Rattle.table.specs.Rows.{kind_at, a_at, leaf_at, LeafAt, text_at, TextAt}
use Rattle.listing.specs.declared.rows.Row.{Row}
use Rattle.listing.specs.Lines.{decimal, signed_decimal, bits_column, text_value, space, newline}

-- "INT", "BITS", "CHAR", "BOOL", "EMPTY", "XTRA", "STRUC", "STRING", "EDT" by kind, between spaces; none behind "EMPTY"
unfoldable pub kind_word : ℕ → List ℕ
unfolding if_eq
kind_word k =
    if_eq k 1 (space ∷ 0x49 ∷ 0x4e ∷ 0x54 ∷ space ∷ [])
    (if_eq k 2 (space ∷ 0x42 ∷ 0x49 ∷ 0x54 ∷ 0x53 ∷ space ∷ [])
    (if_eq k 3 (space ∷ 0x43 ∷ 0x48 ∷ 0x41 ∷ 0x52 ∷ space ∷ [])
    (if_eq k 4 (space ∷ 0x42 ∷ 0x4f ∷ 0x4f ∷ 0x4c ∷ space ∷ [])
    (if_eq k 5 (space ∷ 0x45 ∷ 0x4d ∷ 0x50 ∷ 0x54 ∷ 0x59 ∷ [])
    (if_eq k 6 (space ∷ 0x58 ∷ 0x54 ∷ 0x52 ∷ 0x41 ∷ space ∷ [])
    (if_eq k 7 (space ∷ 0x53 ∷ 0x54 ∷ 0x52 ∷ 0x55 ∷ 0x43 ∷ space ∷ [])
    (if_eq k 9 (space ∷ 0x53 ∷ 0x54 ∷ 0x52 ∷ 0x49 ∷ 0x4e ∷ 0x47 ∷ space ∷ [])
    (space ∷ 0x45 ∷ 0x44 ∷ 0x54 ∷ space ∷ []))))))))

-- the bits of a BITS
unfoldable pub leaf_bits : Leaf → List Bool
leaf_bits (int z) = []
leaf_bits (bits bs) = bs
leaf_bits (char c) = []
leaf_bits (bool b) = []
leaf_bits empty = []
leaf_bits (xtra n) = []

-- what stands behind the kind
unfoldable pub leaf_value : Leaf → List ℕ
unfolding decimal signed_decimal bits_column bit
leaf_value (int z) = signed_decimal z
leaf_value (bits bs) = decimal (length bs) ++ bits_column bs
leaf_value (char c) = decimal c
leaf_value (bool b) = decimal (bit b)
leaf_value empty = []
leaf_value (xtra n) = decimal n

unfoldable pub value_at : List ℕ → ℕ → List ℕ
unfolding if_lt if_eq leaf_value text_value codes decimal
value_at w p = if_lt (kind_at w p) 7 (leaf_value (leaf_at w p)) (if_eq (kind_at w p) 9 (text_value (codes (text_at w p))) (decimal (a_at w p)))

unfoldable pub row_text : ℕ → List ℕ → ℕ → List ℕ
unfolding decimal kind_word value_at
row_text d w p = decimal d ++ (kind_word (kind_at w p) ++ (value_at w p ++ (newline ∷ [])))

-- a row that is in order
pub record RowInOrder (w : List ℕ) (p : ℕ) : Type 0 where
  pub within : 3 * p + 7 ≤ length w
  pub known : (0 < kind_at w p) × (kind_at w p ≤ 9)
  pub leaf : kind_at w p < 7 → LeafAt w p
  pub text : kind_at w p ≡ 9 → TextAt w p

abbrev pub InOrder : Row → Type 0
InOrder r = RowInOrder r.table.now r.p
