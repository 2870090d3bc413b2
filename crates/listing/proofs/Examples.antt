-- The paper's example of what sheetlist writes, others of plain items, and of a refusal. Assumes nothing.
use mathlib.Core.Path.{◌≡◌, refl}
use mathlib.Core.List.{[], ◌∷◌}
use Rattle.listing.specs.Lines.{listing}

-- C2 03 81 82 83
pub three_numbers : listing (0xc2 ∷ 0x03 ∷ 0x81 ∷ 0x82 ∷ 0x83 ∷ [])
    ≡ 97 ∷ 99 ∷ 99 ∷ 101 ∷ 112 ∷ 116 ∷ 101 ∷ 100 ∷ 32 ∷ 49 ∷ 32 ∷ 105 ∷ 116 ∷ 101 ∷ 109 ∷ 115 ∷ 32 ∷ 52 ∷ 32 ∷ 114 ∷ 111 ∷ 119 ∷ 115 ∷ 10
    ∷ 48 ∷ 32 ∷ 83 ∷ 84 ∷ 82 ∷ 85 ∷ 67 ∷ 32 ∷ 51 ∷ 10
    ∷ 49 ∷ 32 ∷ 73 ∷ 78 ∷ 84 ∷ 32 ∷ 49 ∷ 10
    ∷ 49 ∷ 32 ∷ 73 ∷ 78 ∷ 84 ∷ 32 ∷ 50 ∷ 10
    ∷ 49 ∷ 32 ∷ 73 ∷ 78 ∷ 84 ∷ 32 ∷ 51 ∷ 10 ∷ []
unfolding listing
three_numbers = refl

-- E1 FF FE F2 02 53 F1 01: -1, EMPTY, 9 bits, no bits
pub plain_items : listing (0xe1 ∷ 0xff ∷ 0xfe ∷ 0xf2 ∷ 0x02 ∷ 0x53 ∷ 0xf1 ∷ 0x01 ∷ [])
    ≡ 97 ∷ 99 ∷ 99 ∷ 101 ∷ 112 ∷ 116 ∷ 101 ∷ 100 ∷ 32 ∷ 52 ∷ 32 ∷ 105 ∷ 116 ∷ 101 ∷ 109 ∷ 115 ∷ 32 ∷ 52 ∷ 32 ∷ 114 ∷ 111 ∷ 119 ∷ 115 ∷ 10
    ∷ 48 ∷ 32 ∷ 73 ∷ 78 ∷ 84 ∷ 32 ∷ 45 ∷ 49 ∷ 10
    ∷ 48 ∷ 32 ∷ 69 ∷ 77 ∷ 80 ∷ 84 ∷ 89 ∷ 10
    ∷ 48 ∷ 32 ∷ 66 ∷ 73 ∷ 84 ∷ 83 ∷ 32 ∷ 57 ∷ 32 ∷ 48 ∷ 48 ∷ 49 ∷ 48 ∷ 49 ∷ 48 ∷ 48 ∷ 49 ∷ 49 ∷ 10
    ∷ 48 ∷ 32 ∷ 66 ∷ 73 ∷ 84 ∷ 83 ∷ 32 ∷ 48 ∷ 10 ∷ []
unfolding listing
plain_items = refl

-- C6 02 C8 45 C2 81 00: "HE", ""
pub strings : listing (0xc6 ∷ 0x02 ∷ 0xc8 ∷ 0x45 ∷ 0xc2 ∷ 0x81 ∷ 0x00 ∷ [])
    ≡ 97 ∷ 99 ∷ 99 ∷ 101 ∷ 112 ∷ 116 ∷ 101 ∷ 100 ∷ 32 ∷ 50 ∷ 32 ∷ 105 ∷ 116 ∷ 101 ∷ 109 ∷ 115 ∷ 32 ∷ 50 ∷ 32 ∷ 114 ∷ 111 ∷ 119 ∷ 115 ∷ 10
    ∷ 48 ∷ 32 ∷ 83 ∷ 84 ∷ 82 ∷ 73 ∷ 78 ∷ 71 ∷ 32 ∷ 50 ∷ 32 ∷ 55 ∷ 50 ∷ 32 ∷ 54 ∷ 57 ∷ 10
    ∷ 48 ∷ 32 ∷ 83 ∷ 84 ∷ 82 ∷ 73 ∷ 78 ∷ 71 ∷ 32 ∷ 48 ∷ 10 ∷ []
unfolding listing
strings = refl

-- C2 02 E2 01
pub short_integer : listing (0xc2 ∷ 0x02 ∷ 0xe2 ∷ 0x01 ∷ []) ≡ 114 ∷ 101 ∷ 102 ∷ 117 ∷ 115 ∷ 101 ∷ 100 ∷ 32 ∷ 51 ∷ 32 ∷ 97 ∷ 116 ∷ 32 ∷ 50 ∷ 10 ∷ []
unfolding listing
short_integer = refl
