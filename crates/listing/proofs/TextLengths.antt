-- How long the text of a table can be. Assumes nothing.
use mathlib.Core.Path.{◌≡◌, sym, ap, ◌∙◌}
use mathlib.Core.Bool.{Bool, true, false}
use mathlib.Core.List.{List, [], ◌∷◌, ◌++◌}
use Prim.Native.Nat.{ℕ, suc, ◌+◌, ◌*◌, ◌^◌, ◌≤◌, ◌<◌}
use native.Mathlib.Omega.{arith}
use lib.ListN.{length, length-append}
use lib.IntN.{ℤ, pos, negsuc}
use lib.Signed.{mag}
use Rattle.format.specs.Choice.{both}
use Rattle.format.specs.Bits.{bit, words_for}
use Rattle.format.specs.Items.{Leaf, int, bits, char, bool, empty, xtra, Group, struc, edt, Items, end, leaf, group, is_string, proper_leaf, proper_group, proper}
use Rattle.format.specs.Tables.{count, rows, is_text, codes, leaf_words, text_words, data_words}
use Rattle.format.specs.Normal.{depth}
use Rattle.format.proofs.Choices.{pick_yes, pick_no, whether, both_left, both_right, true_lt}
use Rattle.format.proofs.TableLaws.{text_kind, codes_length, text_length, characters_of}
use Rattle.table.specs.InOrder.{all_low}
use Rattle.table.proofs.CodeLaws.{proper_text}
use Rattle.table.proofs.Standing.{leaf_rows, leaf_data, group_rows, group_data, text_rows, text_data}
use lib.Dec.{ltb}
use Rattle.format.proofs.BitLaws.{packed_length, words_enough}
use Rattle.listing.specs.Lines.{decimal, signed_decimal, bits_column, leaf_columns, group_columns, codes_column, text_value, text_columns, line, lines, newline}
use Rattle.listing.specs.Listings.{text_limit}
use Rattle.listing.proofs.Decimals.{count_most}
use Rattle.listing.proofs.BitTexts as B
use Rattle.format.proofs.Counts.{count_rows}

signed_long : (z : ℤ) → mag z < 2 ^ 63 → length (signed_decimal z) ≤ 20
unfolding signed_decimal
signed_long (pos n) h = omega (arith, count_most 18 n (omega arith))
signed_long (negsuc n) h = omega (arith, count_most 18 (suc n) (omega arith))

column_long : (bs : List Bool) → length (bits_column bs) ≤ 1 + length bs
unfolding bits_column
column_long [] = omega arith
column_long (b ∷ bs) = omega (arith, B.text_length (b ∷ bs))

leaf_long : (l : Leaf) → proper_leaf l ≡ true → length (leaf_words l) ≤ 16384 → length (leaf_columns l) ≤ 30 + 64 * length (leaf_words l)
unfolding leaf_columns proper_leaf leaf_words
leaf_long (int z) p h = omega (arith, signed_long z (true_lt (mag z) (2 ^ 63) p))
leaf_long (bits bs) p h =
    let n = packed_length 64 (words_for (length bs)) bs in
    let m = words_enough (length bs) in
    omega (arith, length-append (decimal (length bs)) (bits_column bs), column_long bs, count_most 6 (length bs) (omega arith))
leaf_long (char c) p h = let l = true_lt c 128 p in omega (arith, count_most 2 c (omega arith))
leaf_long (bool true) p h = unfold bit in omega (arith, count_most 0 1 (omega arith))
leaf_long (bool false) p h = unfold bit in omega (arith, count_most 0 0 (omega arith))
leaf_long empty p h = omega arith
leaf_long (xtra n) p h = let l = true_lt n 4 p in omega (arith, count_most 0 n (omega arith))

group_long : (g : Group) (n : ℕ) → n ≤ 16384 → length (group_columns g n) ≤ 12
unfolding group_columns
group_long struc n h = omega (arith, count_most 4 n (omega arith))
group_long edt n h = omega (arith, count_most 4 n (omega arith))

line_long : (d : ℕ) (l : List ℕ) → d ≤ 16 → length (line d l) ≤ 3 + length l
unfolding line
line_long d l h = omega (arith, length-append (decimal d) (l ++ (newline ∷ [])), length-append l (newline ∷ []), count_most 1 d (omega arith))

-- a character takes at most four bytes
codes_long : (cs : List ℕ) → all_low cs ≡ true → length (codes_column cs) ≤ 4 * length cs
unfolding codes_column all_low
codes_long [] h = omega arith
codes_long (c ∷ cs) h =
    let l = true_lt c 128 (both_left (ltb c 128) (all_low cs) h) in
    omega (arith, length-append (decimal c) (codes_column cs), count_most 2 c (omega arith), codes_long cs (both_right (ltb c 128) (all_low cs) h))

low_codes : (c : Items) → is_string c ≡ true → proper c ≡ true → all_low (codes c) ≡ true
low_codes c t p = sym (proper_text (codes c)) ∙ ap proper (characters_of c t p).are ∙ p

columns_are : (cs : List ℕ) → length (text_columns cs) ≡ 8 + length (decimal (length cs) ++ codes_column cs)
unfolding text_columns text_value
columns_are cs = omega arith

lines_long : (d : ℕ) (xs : Items) → proper xs ≡ true → d + depth xs ≤ 16 → rows xs ≤ 16384 → length (data_words xs) ≤ 16384 →
    length (lines d xs) ≤ 40 * rows xs + 64 * length (data_words xs)
unfolding lines proper depth
lines_long d end p s r m = omega arith
lines_long d (leaf l xs) p s r m =
    let n = leaf_data l xs in
    let k = leaf_rows l xs in
    let a = leaf_long l (both_left (proper_leaf l) (proper xs) p) (omega arith) in
    let b = line_long d (leaf_columns l) (omega arith) in
    let i = lines_long d xs (both_right (proper_leaf l) (proper xs) p) s (omega arith) (omega arith) in
    omega (arith, length-append (line d (leaf_columns l)) (lines d xs))
lines_long d (group g c xs) p s r m =
    let q = both_right (proper_group g c) (both (proper c) (proper xs)) p in
    let x : List ℕ = line d (group_columns g (count c)) in
    let y : List ℕ = line d (text_columns (codes c)) in
    whether (is_text g c)
    (λ t.
    let n = ap length (text_data g c xs t) ∙ length-append (text_words c) (data_words xs) in
    let k = text_rows g c xs t in
    let e = (text_kind g c t).1 in
    let o = text_length c in
    let u = words_enough (8 * count c) in
    let a = codes_long (codes c) (low_codes c e (both_left (proper c) (proper xs) q)) in
    let v = codes_length c in
    let f = count_most 6 (length (codes c)) (omega arith) in
    let h = length-append (decimal (length (codes c))) (codes_column (codes c)) in
    let b = line_long d (text_columns (codes c)) (omega arith) in
    let j = lines_long d xs (both_right (proper c) (proper xs) q) (omega arith) (omega arith) (omega arith) in
    let z : length (text_columns (codes c)) ≡ 8 + length (decimal (length (codes c)) ++ codes_column (codes c)) = columns_are (codes c) in
    rw (pick_yes (is_text g c) y (x ++ lines (suc d) c) t) (omega (arith, length-append y (lines d xs))))
    (λ t.
    let n = ap length (group_data g c xs t) ∙ length-append (data_words c) (data_words xs) in
    let k = group_rows g c xs t in
    let a = group_long g (count c) (omega (arith, count_rows c)) in
    let b = line_long d (group_columns g (count c)) (omega arith) in
    let i = lines_long (suc d) c (both_left (proper c) (proper xs) q) (omega arith) (omega arith) (omega arith) in
    let j = lines_long d xs (both_right (proper c) (proper xs) q) (omega arith) (omega arith) (omega arith) in
    rw (pick_no (is_text g c) y (x ++ lines (suc d) c) t) (omega (arith, length-append (x ++ lines (suc d) c) (lines d xs), length-append x (lines (suc d) c))))

-- the first line has at most 32 bytes
pub text_long : (xs : Items) → proper xs ≡ true → depth xs ≤ 16 → 3 * rows xs + length (data_words xs) ≤ 7996 →
    32 + length (lines 0 xs) ≤ text_limit
text_long xs p s h = omega (arith, lines_long 0 xs p (omega arith) (omega arith) (omega arith))
