-- "Normal form": "Sizes take the fewest bytes. No padding, no repeats."
use Rattle.std.specs.Prelude.{ℕ, suc, ◌+◌, ◌*◌, ◌%◌, max, Bool, true, List, [], ◌∷◌, ◌++◌, length, ℤ, pos, negsuc}
use Rattle.std.specs.Int.Signed.{mag}
use Rattle.format.specs.Choice.{pick, if_lt, if_eq}
use Rattle.format.specs.Numbers.{be, width, twos}
use Rattle.format.specs.Bits.{bit, num, packed, bytes_for}
use Rattle.format.specs.Items.{Leaf, int, bits, char, bool, empty, xtra, Group, struc, edt, Items, end, leaf, group, is_string}

-- "Sizes 127, 128, 129, 20000: 7F; 00; 81 81; 82 4E 20", and "size 0 needs 81 00"
unfoldable pub normal_size : ℕ → List ℕ
unfolding if_lt if_eq be width
normal_size n = if_eq n 0 (0x81 ∷ 0 ∷ []) (if_lt n 128 (n ∷ []) (if_eq n 128 (0 ∷ []) ((0x80 + width n) ∷ be (width n) n)))

-- contents with their size before them
unfoldable pub with_size : List ℕ → List ℕ
unfolding normal_size
with_size l = normal_size (length l) ++ l

-- k bytes fit a signed number z when twice its magnitude is below 256 ^ k
unfoldable pub linteger : ℤ → List ℕ
unfolding be width twos
linteger z = (0xe0 + width (2 * mag z) % 8) ∷ be (width (2 * mag z)) (twos (width (2 * mag z)) z)

-- "INT: SINTEGER for 0 to 63, else the shortest LINTEGER."
unfoldable pub normal_int : ℤ → List ℕ
unfolding if_lt linteger
normal_int (pos n) = if_lt n 64 ((0x80 + n) ∷ []) (linteger (pos n))
normal_int (negsuc n) = linteger (negsuc n)

-- the marker and the bits behind it are a number, and its bytes the data
unfoldable pub sbitstr : ℕ → List ℕ
unfolding be width
sbitstr v = (0xf0 + width v % 8) ∷ be (width v) v

-- "BITS: SBITSTR up to 63 bits, else LBITSTR with a normal length and zero spare bits."
unfoldable pub normal_bits : List Bool → List ℕ
unfolding if_lt sbitstr num with_size normal_int packed bytes_for
normal_bits bs =
    if_lt (length bs) 64 (sbitstr (num (true ∷ bs)))
    (0xc1 ∷ with_size (normal_int (pos (length bs)) ++ packed 8 (bytes_for (length bs)) bs))

unfoldable pub normal_leaf : Leaf → List ℕ
unfolding normal_int normal_bits bit
normal_leaf (int z) = normal_int z
normal_leaf (bits bs) = normal_bits bs
normal_leaf (char c) = c ∷ []
normal_leaf (bool b) = (0xfc + bit b) ∷ []
normal_leaf empty = 0xfe ∷ []
normal_leaf (xtra n) = (0xf8 + n) ∷ []

-- "String: USTRUC, the RFC's preferred form. Other STRUC: STRUC."
unfoldable pub group_byte : Group → Items → ℕ
unfolding pick is_string
group_byte struc c = pick (is_string c) 0xc5 0xc2
group_byte edt c = 0xc3

-- "A message's normal form is the normal forms of its items, one after another."
unfoldable pub normal : Items → List ℕ
unfolding normal_leaf group_byte with_size
normal end = []
normal (leaf l xs) = normal_leaf l ++ normal xs
normal (group g c xs) = group_byte g c ∷ (with_size (normal c) ++ normal xs)

-- how many STRUCs and EDTs stand one inside another
unfoldable pub depth : Items → ℕ
depth end = 0
depth (leaf l xs) = depth xs
depth (group g c xs) = max (suc (depth c)) (depth xs)
