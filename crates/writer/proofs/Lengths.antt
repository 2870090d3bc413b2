-- How long a normal form can be, by the rows and the data words of its items. Assumes nothing.
use mathlib.Core.Path.{◌≡◌, ◌∙◌, ap}
use mathlib.Core.List.{List, ◌∷◌, ◌++◌}
use mathlib.Core.Bool.{Bool, true}
use Prim.Native.Nat.{ℕ, suc, ◌+◌, ◌*◌, ◌^◌, ◌<◌, ◌≤◌}
use native.Mathlib.Omega.{arith}
use lib.ListN.{length, length-append}
use lib.IntN.{pos}
use lib.Signed.{mag}
use Rattle.format.specs.Choice.{both}
use Rattle.format.specs.Numbers.{be, width}
use Rattle.format.specs.Bits.{num, packed, bytes_for, words_for}
use Rattle.format.specs.Items.{Leaf, int, bits, char, bool, empty, xtra, Items, end, leaf, group, proper_leaf, proper_group, proper}
use Rattle.format.specs.Tables.{count, rows, is_text, leaf_words, text_words, data_words}
use Rattle.format.specs.Normal.{normal_size, with_size, normal_int, sbitstr, normal_bits, normal_leaf, normal}
use Rattle.format.proofs.Choices.{split, whether, if_lt_yes, if_lt_no, true_lt, both_left, both_right}
use Rattle.format.proofs.Digits.{be_length, width_least}
use Rattle.format.proofs.BitLaws.{packed_length, words_enough}
use Rattle.format.proofs.Marker.{marker_lt}
use Rattle.format.proofs.Shortest.{int_shortest}
use Rattle.format.proofs.TableLaws.{text_kind, text_length}
use Rattle.writer.proofs.NumberLaws.{size_most}
use Rattle.table.proofs.Standing.{group_rows, group_data, text_rows, text_data, leaf_rows, leaf_data}
use Rattle.writer.proofs.StringLaws.{string_size}

-- ---- how long a normal form can be
bits_bound : (bs : List Bool) → words_for (length bs) ≤ 16384 → length (normal_bits bs) ≤ 20 + 8 * words_for (length bs)
unfolding normal_bits sbitstr with_size bytes_for words_for
bits_bound bs h =
    split (length bs) 64
    (λ l.
    let v : ℕ = num (true ∷ bs) in
    let m : v < 256 ^ 8 = omega (arith, marker_lt bs, lib.Pow.pow_mono {i = suc (length bs)} {j = 64} (omega arith)) in
    let e : length (normal_bits bs) ≡ suc (length (be (width v) v)) = ap length (if_lt_yes (length bs) 64 _ _ l) in
    omega (arith, be_length (width v) v, width_least v 8 (omega arith) m))
    (λ g.
    let i : List ℕ = normal_int (pos (length bs)) in
    let y : List ℕ = packed 8 (bytes_for (length bs)) bs in
    let a = int_shortest 8 (pos (length bs)) (omega arith) (omega arith) in
    let n : length (i ++ y) ≡ length i + bytes_for (length bs) = length-append i y ∙ ap (λ z. length i + z) (packed_length 8 (bytes_for (length bs)) bs) in
    let e : length (normal_bits bs) ≡ suc (length (normal_size (length (i ++ y)) ++ (i ++ y))) = ap length (if_lt_no (length bs) 64 _ _ g) in
    omega (arith, length-append (normal_size (length (i ++ y))) (i ++ y), size_most (length (i ++ y)) (omega arith)))

leaf_bound : (l : Leaf) → proper_leaf l ≡ true → length (leaf_words l) ≤ 16384 → length (normal_leaf l) ≤ 20 + 8 * length (leaf_words l)
unfolding normal_leaf leaf_words proper_leaf
leaf_bound (int z) p h = let m = true_lt (mag z) (2 ^ 63) p in omega (arith, int_shortest 8 z (omega arith) (omega arith))
leaf_bound (bits bs) p h =
    let n = packed_length 64 (words_for (length bs)) bs in
    omega (arith, bits_bound bs (omega arith))
leaf_bound (char c) p h = omega arith
leaf_bound (bool b) p h = omega arith
leaf_bound empty p h = omega arith
leaf_bound (xtra n) p h = omega arith

pub normal_bound : (xs : Items) → proper xs ≡ true → rows xs ≤ 16384 → length (data_words xs) ≤ 16384 → length (normal xs) ≤ 20 * rows xs + 8 * length (data_words xs)
unfolding normal proper with_size
normal_bound end p r d = omega arith
normal_bound (leaf l xs) p r d =
    let n = leaf_data l xs in
    let m = leaf_rows l xs in
    let a = leaf_bound l (both_left (proper_leaf l) (proper xs) p) (omega arith) in
    let b = normal_bound xs (both_right (proper_leaf l) (proper xs) p) (omega arith) (omega arith) in
    omega (arith, length-append (normal_leaf l) (normal xs))
normal_bound (group g c xs) p r d =
    let q = both_right (proper_group g c) (both (proper c) (proper xs)) p in
    let x = length-append (normal_size (length (normal c)) ++ normal c) (normal xs) in
    let y = length-append (normal_size (length (normal c))) (normal c) in
    whether (is_text g c)
    (λ t.
    let n = ap length (text_data g c xs t) ∙ length-append (text_words c) (data_words xs) in
    let m = text_rows g c xs t in
    let l = text_length c in
    let e = words_enough (8 * count c) in
    let z = string_size c (text_kind g c t).1 in
    let b = normal_bound xs (both_right (proper c) (proper xs) q) (omega arith) (omega arith) in
    let s = size_most (length (normal c)) (omega arith) in
    omega arith)
    (λ t.
    let n = ap length (group_data g c xs t) ∙ length-append (data_words c) (data_words xs) in
    let m = group_rows g c xs t in
    let a = normal_bound c (both_left (proper c) (proper xs) q) (omega arith) (omega arith) in
    let b = normal_bound xs (both_right (proper c) (proper xs) q) (omega arith) (omega arith) in
    let s = size_most (length (normal c)) (omega arith) in
    omega arith)

-- ---- the length of one item, then of the rest
pub container_length : (c : Items) → 1 + length (with_size (normal c)) ≡ 1 + length (normal_size (length (normal c))) + length (normal c)
unfolding with_size
container_length c = omega (arith, length-append (normal_size (length (normal c))) (normal c))
