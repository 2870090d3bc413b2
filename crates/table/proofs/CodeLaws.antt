-- A string's codes: the words that hold them, the characters that have them, and that all of them are below 128. Assumes nothing.
use mathlib.Core.Path.{◌≡◌, refl, sym, ◌∙◌, ap, ap₂}
use mathlib.Core.List.{List, [], ◌∷◌, ◌++◌}
use mathlib.Core.Bool.{Bool, true, false, ◌&&◌}
use mathlib.Core.Logic.{◌≢◌}
use Prim.Native.Nat.{ℕ, zero, suc, ◌+◌, ◌-◌, ◌*◌, ◌/◌, ◌%◌, ◌^◌, ◌<◌, ◌≤◌, min, max}
use native.Mathlib.Omega.{arith}
use native.Mathlib.Numerals.{add-one}
use lib.ListN.{length, take, drop, get_or}
use lib.Seq.{drop-cons, drop_at, take_all}
use lib.Dec.{ltb, eqb}
use lib.Arith.{bin_ind}
use lib.Bits.{bit_and, bit_or, and_step, or_step, and_le_r, or_add_and, or_lt}
use Rattle.format.specs.Choice.{both}
use Rattle.format.specs.Numbers.{Bytes, val, be}
use Rattle.format.specs.Bits.{bits_of, spread, packed, adjusted, words_for}
use Rattle.format.specs.Items.{bits, Items, text, leaf_kind, all_of, kinds, is_string, proper_leaf, proper}
use Rattle.format.specs.Tables.{in_words, leaf_b, leaf_words, codes, letters, text_words}
use Rattle.format.proofs.Choices.{lt_true, true_lt, eq_false, both_left, both_right, both_true, both_no}
use Rattle.format.proofs.Digits.{be_length, be_val, be_bytes}
use Rattle.format.proofs.MaskLaws.{mask, masked, and_mask_bytes, none_high}
use Rattle.format.proofs.BitLaws.{bits_length_lem, spread_length, packed_length, packed_parts, spread_packed, adjusted_bits}
use Rattle.std.specs.Prelude.{Some, None}
use Rattle.table.specs.Rows.{rows_of, words_of, Headed}
use Rattle.table.specs.InOrder.{all_low, low_words, words_low, bits_ok, text_ok, TextJudged}
use Rattle.table.proofs.RowLaws.{text_long, text_bits, text_codes}
use Rattle.std.specs.Prelude.{fold}
use Rattle.table.proofs.BitRows.{packed_be}

-- the words of a string and of a BITS are those of bits
pub text_words_lem : (c : Items) → text_words c ≡ in_words (spread 8 (codes c))
unfolding text_words letters
text_words_lem c = refl

pub bits_words : (bs : List Bool) → leaf_words (bits bs) ≡ in_words bs
unfolding leaf_words
bits_words bs = refl

pub in_words_lem : (bs : List Bool) → in_words bs ≡ packed 64 (words_for (length bs)) bs
unfolding in_words
in_words_lem bs = refl

-- codes as the characters of a string
pub codes_text : (cs : List ℕ) → codes (text cs) ≡ cs
unfolding codes text leaf_b
codes_text [] = refl
codes_text (c ∷ cs) = ap (λ l. c ∷ l) (codes_text cs)

pub string_text : (cs : List ℕ) → is_string (text cs) ≡ true
unfolding is_string all_of kinds text leaf_kind both
string_text [] = refl
string_text (c ∷ cs) = string_text cs

pub proper_text : (cs : List ℕ) → proper (text cs) ≡ all_low cs
unfolding proper proper_leaf text all_low
proper_text [] = refl
proper_text (c ∷ cs) = ap (both (ltb c 128)) (proper_text cs)

-- bits that fill their codes
pub packed_whole : (a : ℕ) (bs : List Bool) → length bs ≡ 8 * a → spread 8 (packed 8 a bs) ≡ bs
packed_whole a bs e =
    let n : length (spread 8 (packed 8 a bs)) ≡ 8 * a = spread_length 8 (packed 8 a bs) ∙ ap (λ k. 8 * k) (packed_length 8 a bs) in
    sym (take_all (length bs) (spread 8 (packed 8 a bs)) (omega arith)) ∙ spread_packed 8 a bs (omega arith)

-- ---- codes below 128
both_assoc : (a b c : Bool) → both a (both b c) ≡ both (both a b) c
unfolding both
both_assoc true b c = refl
both_assoc false b c = refl

low_append : (a b : List ℕ) → all_low (a ++ b) ≡ both (all_low a) (all_low b)
unfolding all_low
low_append [] b = unfold both in refl
low_append (c ∷ a) b = ap (both (ltb c 128)) (low_append a b) ∙ both_assoc (ltb c 128) (all_low a) (all_low b)

low_parts : (j k : ℕ) (bs : List Bool) → all_low (packed 8 (j + k) bs) ≡ both (all_low (packed 8 j bs)) (all_low (packed 8 k (drop (8 * j) bs)))
low_parts j k bs = ap all_low (packed_parts 8 j k bs) ∙ low_append (packed 8 j bs) (packed 8 k (drop (8 * j) bs))

-- the codes in each of some words
both_and : (a b : Bool) → both a b ≡ a && b
unfolding both
both_and true b = refl
both_and false b = refl

pub low_list : (k i : ℕ) (w : List ℕ) → i + k ≤ length w → low_words w i k ≡ words_low (take k (drop i w))
unfolding low_words
low_list zero i w h = refl
low_list (suc k) i w h =
    let e : drop i w ≡ get_or w i 0 ∷ drop (i + 1) w = drop-cons w i 0 (omega arith) ∙ ap (λ n. get_or w i 0 ∷ drop n w) (sym (add-one i)) in
    ap (both (all_low (be 8 (get_or w i 0)))) (low_list k (i + 1) w (omega arith)) ∙ both_and (all_low (be 8 (get_or w i 0))) _
    ∙ sym (ap (λ l. words_low (take (suc k) l)) e)

pub low_words_lem : (k : ℕ) (bs : List Bool) → words_low (packed 64 k bs) ≡ all_low (packed 8 (8 * k) bs)
unfolding packed
low_words_lem zero bs = unfold all_low in refl
low_words_lem (suc k) bs =
    let e : 8 + 8 * k ≡ 8 * suc k = omega arith in
    sym (both_and (all_low (be 8 (adjusted 64 bs))) _) ∙ ap₂ both (ap all_low (sym (packed_be 8 bs))) (low_words_lem k (drop 64 bs)) ∙ sym (low_parts 8 (8 * k) bs) ∙ ap (λ n. all_low (packed 8 n bs)) e

-- fewer of them
pub low_fewer : (a n : ℕ) (bs : List Bool) → a ≤ n → all_low (packed 8 n bs) ≡ true → all_low (packed 8 a bs) ≡ true
low_fewer a n bs h t =
    let e : a + (n - a) ≡ n = omega arith in
    both_left (all_low (packed 8 a bs)) _ (sym (low_parts a (n - a) bs) ∙ ap (λ k. all_low (packed 8 k bs)) e ∙ t)

-- more of them are 0
pub low_more : (n : ℕ) (cs : List ℕ) → all_low cs ≡ true → all_low (packed 8 n (spread 8 cs)) ≡ true
unfolding packed spread all_low
low_more zero cs t = refl
low_more (suc n) [] t = low_more n [] t
low_more (suc n) (c ∷ cs) t =
    let l : c < 128 = true_lt c 128 (both_left (ltb c 128) (all_low cs) t) in
    let e : adjusted 8 (bits_of 8 c ++ spread 8 cs) ≡ c = adjusted_bits 8 c (spread 8 cs) (omega arith) in
    let d : drop 8 (bits_of 8 c ++ spread 8 cs) ≡ spread 8 cs = drop_at (bits_of 8 c) (spread 8 cs) 8 (bits_length_lem 8 c) in
    rw (e, d) (both_true (ltb c 128) _ (lt_true c 128 l) (low_more n cs (both_right (ltb c 128) (all_low cs) t)))

-- ---- the code's test of a word
low_high : (s : List ℕ) → Bytes s → eqb (val (masked 128 s)) 0 ≡ all_low s
unfolding masked val all_low
low_high [] h = refl
low_high (b ∷ s) h = none_high b s h.0 ∙ ap (both (ltb b 128)) (low_high s h.1)

pub low_word : (x : ℕ) → x < 2 ^ 64 → eqb (bit_and x 0x8080808080808080) 0 ≡ all_low (be 8 x)
unfolding mask
low_word x h =
    let b : Bytes (be 8 x) = be_bytes 8 x h in
    ap (λ n. eqb n 0) (ap₂ (λ v n. bit_and v (mask 128 n)) (sym (be_val 8 x h)) (sym (be_length 8 x)) ∙ and_mask_bytes 128 (be 8 x) (omega arith) b) ∙ low_high (be 8 x) b

-- ---- words joined by `|` before the test
and_or : (m a b : ℕ) → bit_and (bit_or a b) m ≡ bit_or (bit_and a m) (bit_and b m)
and_or m a b =
    bin_ind (λ (n : ℕ). (b m : ℕ) → bit_and (bit_or n b) m ≡ bit_or (bit_and n m) (bit_and b m)) (λ b m. refl)
    (λ n ih b m.
    let half : bit_or n b / 2 ≡ bit_or (n / 2) (b / 2) = omega (arith, or_step n b) in
    let last : bit_or n b % 2 ≡ max (n % 2) (b % 2) = omega (arith, or_step n b) in
    let half_n : bit_and n m / 2 ≡ bit_and (n / 2) (m / 2) = omega (arith, and_step n m) in
    let last_n : bit_and n m % 2 ≡ min (n % 2) (m % 2) = omega (arith, and_step n m) in
    let half_b : bit_and b m / 2 ≡ bit_and (b / 2) (m / 2) = omega (arith, and_step b m) in
    let last_b : bit_and b m % 2 ≡ min (b % 2) (m % 2) = omega (arith, and_step b m) in
    let x : bit_and (bit_or n b / 2) (m / 2) ≡ bit_or (bit_and n m / 2) (bit_and b m / 2) =
    ap (λ z. bit_and z (m / 2)) half ∙ ih (b / 2) (m / 2) ∙ ap₂ bit_or (sym half_n) (sym half_b) in
    omega (arith, and_step (bit_or n b) m, or_step (bit_and n m) (bit_and b m)))
    a
    b
    m

or_some : (a b : ℕ) → 0 < a → bit_or a b ≢ 0
or_some a b h z = omega (arith, or_add_and a b, and_le_r a b)

or_zero : (a b : ℕ) → eqb (bit_or a b) 0 ≡ both (eqb a 0) (eqb b 0)
unfolding both
or_zero zero b = refl
or_zero (suc a) b = eq_false (bit_or (suc a) b) 0 (or_some (suc a) b (omega arith)) ∙ sym (both_no (eqb (suc a) 0) (eqb b 0) (eq_false (suc a) 0 (λ z. omega arith)))

low_or : (a b : ℕ) → a < 2 ^ 64 → b < 2 ^ 64 → all_low (be 8 (bit_or a b)) ≡ both (all_low (be 8 a)) (all_low (be 8 b))
low_or a b h l =
    let m : ℕ = 0x8080808080808080 in
    sym (low_word (bit_or a b) (or_lt 64 a b h l)) ∙ ap (λ n. eqb n 0) (and_or m a b) ∙ or_zero (bit_and a m) (bit_and b m)
    ∙ ap₂ both (low_word a h) (low_word b l)

both_right_true : (b : Bool) → both b true ≡ b
unfolding both
both_right_true true = refl
both_right_true false = refl

joined_from : (x : ℕ) (ws : List ℕ) → x < 2 ^ 64 → ((i : ℕ) → get_or ws i 0 < 2 ^ 64) → all_low (be 8 (fold bit_or x ws)) ≡ both (all_low (be 8 x)) (words_low ws)
joined_from x [] h f = sym (both_right_true (all_low (be 8 x)))
joined_from x (y ∷ ws) h f =
    joined_from (bit_or x y) ws (or_lt 64 x y h (f 0)) (λ i. f (suc i)) ∙ ap (λ b. both b (words_low ws)) (low_or x y h (f 0))
    ∙ sym (both_assoc (all_low (be 8 x)) (all_low (be 8 y)) (words_low ws)) ∙ ap (both (all_low (be 8 x))) (both_and (all_low (be 8 y)) (words_low ws))

-- words joined are low where each is
pub low_joined : (ws : List ℕ) → ((i : ℕ) → get_or ws i 0 < 2 ^ 64) → all_low (be 8 (fold bit_or 0 ws)) ≡ words_low ws
unfolding all_low be both
low_joined ws f = joined_from 0 ws (omega arith) f

-- the answer on a string whose bits stand where its row says, by the words that hold its codes
module _ (w : List ℕ) (d a b n i : ℕ) (l s : Bool) (h : Headed w) (e : i ≡ 3 * rows_of w + 4 + d) (v : s ≡ bits_ok w d (8 * a) b) (t : s ≡ true) (f : s ≡ true → d + (8 * a + 63) / 64 ≤ words_of w) (m : n ≡ (8 * a + 63) / 64)
    (q : l ≡ words_low (take (i + n - i) (drop i w))) where
  fits : d + n ≤ words_of w
  fits = omega (arith, f t)

  many : n ≡ words_for (8 * a)
  unfolding words_for
  many = m

  told : text_ok w d a b ≡ l
  told =
      text_codes w d a b (sym v ∙ t) ∙ ap₂ (low_words w) (sym e) (sym many) ∙ low_list n i w (omega (arith, h.within, fits))
      ∙ ap (λ k. words_low (take k (drop i w))) (omega arith) ∙ sym q

  pub text_high : l ≡ false → TextJudged w d a b None
  text_high z = told ∙ z

  pub text_low : l ≡ true → TextJudged w d a b (Some n)
  text_low z = (told ∙ z, fits, many)

pub ruleset judging_text = (text_high, text_low, text_long, text_bits)
