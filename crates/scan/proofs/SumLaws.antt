-- What lists of items come to: nothing, one item, one list after another, a repeat, a container. Assumes nothing.
use Prim.Native.Nat.{ℕ, zero, suc, ◌+◌, ◌*◌, ◌/◌, ◌≤◌, ◌<◌, min}
use native.Mathlib.Omega.{arith}
use native.Mathlib.Nat.{mul-zero, zero-mul, mul-le-mul_right, mul-le-mul_left}
use mathlib.Core.Path.{◌≡◌, refl, sym, ap, ◌∙◌}
use mathlib.Core.Bool.{Bool, true, false}
use mathlib.Core.List.{List, [], ◌∷◌, ◌++◌}
use lib.ListN.{length, length-append}
use Rattle.format.specs.Choice.{pick}
use Rattle.format.specs.Bits.{words_for}
use Rattle.format.specs.Items.{Leaf, bits, Group, struc, Items, end, leaf, group, one, join, times, leaf_kind, is_string, behind}
use Rattle.format.specs.Tables.{count, is_text, rows, in_words, leaf_words, text_words, data_words}
use Rattle.format.specs.Objects.{characters}
use Rattle.format.proofs.Choices.{eq_false, pick_yes, pick_no, whether, split}
use Rattle.format.proofs.BitLaws.{packed_length}
use Rattle.format.proofs.TableLaws.{string_rows, text_length}
use Rattle.format.proofs.Counts.{times_zero, times_suc, join_end, words, rows_join, words_join, rows_times, words_times}
use Rattle.std.specs.Prelude.{Some}
use Rattle.format.specs.declared.kinds.Kind.{Kind}
use Rattle.format.specs.declared.kinds.Kind.TheVariants as K
use Rattle.format.specs.Kinds.{word_of}
use Rattle.scan.specs.declared.summary.Met.{Met}
use Rattle.scan.specs.declared.summary.Summary.{Summary}
use Rattle.scan.specs.Sums.{cap_words, cap_rows, leaf_named, group_named, named, mix_of, lead, met_one, met_mix, met_lead, sum_of, nothing_of, element_of, one_of, text_of, plus_of, second_power, power_of, container_of, struc_by, struc_of}
use Rattle.scan.proofs.KindsMet.{leaf_word, same_kind, mix_append, mix_again, mixed_words}
use Rattle.scan.proofs.Leads.{lead_join, lead_words, second_join, lead_times, second_times, struc_lead_lem}
use Rattle.format.proofs.ItemLaws.{chars_string}

-- summaries by their components
same_sum : (r r' w w' : ℕ) (m m' f f' g g' : Met) → r ≡ r' → w ≡ w' → m ≡ m' → f ≡ f' → g ≡ g'
    → ◌≡◌ {A = Summary} (record { rows = r; words = w; mix = m; first = f; second = g }) (record { rows = r'; words = w'; mix = m'; first = f'; second = g' })
same_sum r r' w w' m m' f f' g g' a b c d e = rw (a, b, c, d, e) refl

-- ---- nothing, and one item
pub sum_none : sum_of end ≡ nothing_of
unfolding sum_of
sum_none = refl

sum_leaf : (l : Leaf) (k : Kind) (w : ℕ) → leaf_kind l ≡ word_of k → length (leaf_words l) ≡ w → w ≤ 65536 → sum_of (one l) ≡ one_of k 1 w
unfolding sum_of
sum_leaf l k w e f h =
    let n : leaf_named l ≡ k = same_kind (leaf_named l) k (leaf_word l ∙ e) in
    same_sum _ _ _ _ _ _ _ _ _ _ refl (omega (arith, length-append (leaf_words l) [])) (ap met_one n) (ap met_one n) refl

pub sum_row : (l : Leaf) (k : Kind) → leaf_kind l ≡ word_of k → leaf_words l ≡ [] → sum_of (one l) ≡ one_of k 1 0
sum_row l k e f = sum_leaf l k 0 e (ap length f) (omega arith)

pub sum_bits : (bs : List Bool) (n : ℕ) → length bs ≡ n → words_for n ≤ 65536 → sum_of (one (bits bs)) ≡ one_of K.Bits 1 (words_for n)
unfolding leaf_kind leaf_words in_words
sum_bits bs n e h = sum_leaf (bits bs) K.Bits (words_for n) refl (packed_length 64 (words_for (length bs)) bs ∙ ap words_for e) h

-- what a container comes to, whatever its rows and words
sum_closed : (g : Group) (xs : Items) (k l : Kind) (r w : ℕ) → group_named g ≡ k → lead (group g xs end) ≡ Some l
    → cap_rows (rows (group g xs end)) ≡ r → cap_words (words (group g xs end)) ≡ w
    → sum_of (group g xs end) ≡ element_of k l r w
unfolding sum_of
sum_closed g xs k l r w e f a b = same_sum _ _ _ _ _ _ _ _ _ _ a b (ap met_one e) (ap met_lead f) refl

-- no string
pub sum_group : (g : Group) (xs : Items) (k l : Kind) → group_named g ≡ k → lead (group g xs end) ≡ Some l → is_text g xs ≡ false
    → sum_of (group g xs end) ≡ container_of k l (sum_of xs)
unfolding sum_of rows data_words
sum_group g xs k l e f t =
    let r : pick (is_text g xs) 0 (rows xs) ≡ rows xs = pick_no (is_text g xs) 0 (rows xs) t in
    let w : length (pick (is_text g xs) (text_words xs) (data_words xs)) ≡ words xs = ap length (pick_no (is_text g xs) (text_words xs) (data_words xs) t) in
    sum_closed g xs k l _ _ e f (omega arith) (omega (arith, length-append (pick (is_text g xs) (text_words xs) (data_words xs)) []))

-- a string: one row, and its elements in the data
sum_string : (xs : Items) → is_string xs ≡ true → sum_of (group struc xs end) ≡ text_of (cap_rows (rows xs))
unfolding rows data_words is_text words_for group_named lead
sum_string xs t =
    let n : rows xs ≡ count xs = string_rows xs t in
    let r : pick (is_string xs) 0 (rows xs) ≡ 0 = pick_yes (is_string xs) 0 (rows xs) t in
    let w : length (pick (is_string xs) (text_words xs) (data_words xs)) ≡ (8 * count xs + 63) / 64 = ap length (pick_yes (is_string xs) (text_words xs) (data_words xs) t) ∙ text_length xs in
    sum_closed struc xs K.Struc K.String 1 _ refl (ap Some (pick_yes (is_string xs) K.String K.Struc t))
    (omega arith) (omega (arith, length-append (pick (is_string xs) (text_words xs) (data_words xs)) []))

pub sum_struc : (xs : Items) → sum_of (group struc xs end) ≡ struc_of (sum_of xs)
unfolding sum_of group_named is_text lead
sum_struc xs =
    let e : cap_rows (cap_rows (rows xs)) ≡ cap_rows (rows xs) = omega arith in
    let l = struc_lead_lem xs in
    whether (is_string xs)
    (λ t. sum_string xs t ∙ ap text_of (sym e) ∙ ap (λ k. struc_by k (sum_of xs)) (sym (l ∙ pick_yes (is_string xs) K.String K.Struc t)))
    (λ t.
    let n : pick (is_string xs) K.String K.Struc ≡ K.Struc = pick_no (is_string xs) K.String K.Struc t in
    sum_group struc xs K.Struc K.Struc refl (ap Some n) t ∙ ap (λ k. struc_by k (sum_of xs)) (sym (l ∙ n)))

-- a string as it is sent by itself
text_rows : (s : List ℕ) → rows (characters s) ≡ length s
unfolding rows characters
text_rows [] = refl
text_rows (b ∷ s) = ap suc (text_rows s)

pub sum_text : (s : List ℕ) (n : ℕ) → length s ≡ n → n ≤ 65536 → sum_of (group struc (characters s) end) ≡ text_of n
sum_text s n e h =
    let m : cap_rows (rows (characters s)) ≡ n = omega (arith, text_rows s) in
    sum_string (characters s) (chars_string s) ∙ ap text_of m

-- ---- one list after another
named_join : (xs ys : Items) → named (join xs ys) ≡ named xs ++ named ys
unfolding named join
named_join end ys = refl
named_join (leaf l xs) ys = ap (λ ks. leaf_named l ∷ ks) (named_join xs ys)
named_join (group g c xs) ys = ap (λ ks. group_named g ∷ ks) (named_join xs ys)

pub sum_join : (xs ys : Items) → sum_of (join xs ys) ≡ plus_of (sum_of xs) (sum_of ys)
unfolding sum_of
sum_join xs ys =
    same_sum _ _ _ _ _ _ _ _ _ _ (omega (arith, rows_join xs ys)) (omega (arith, words_join xs ys))
    (ap (λ ks. met_mix (mix_of ks)) (named_join xs ys) ∙ ap met_mix (mix_append (named xs) (named ys)) ∙ sym (mixed_words (mix_of (named xs)) (mix_of (named ys))))
    (ap met_lead (lead_join xs ys) ∙ sym (lead_words (lead xs) (lead ys)))
    (second_join xs ys)

-- ---- a repeat
module _ (m : ℕ) (some : 0 < m) where
  -- up to m
  abbrev upto : ℕ → ℕ
  upto n = min n m

  cap_product : (a b : ℕ) → upto (upto a * upto b) ≡ upto (a * b)
  cap_product a zero = let z : upto 0 ≡ 0 = omega arith in rw (z, mul-zero a, mul-zero (upto a)) refl
  cap_product zero (suc b) = let z : upto 0 ≡ 0 = omega arith in rw (z, zero-mul (suc b), zero-mul (upto (suc b))) refl
  cap_product (suc a) (suc b) =
      split a m
      (λ h. split b m
      (λ g. let p : upto (suc a) ≡ suc a = omega arith in let q : upto (suc b) ≡ suc b = omega arith in rw (p, q) refl)
      (λ g.
      let q : upto (suc b) ≡ m = omega arith in
      let l : 1 * m ≤ upto (suc a) * m = mul-le-mul_right {m = 1} {n = upto (suc a)} m (omega arith) in
      let k : 1 * suc b ≤ suc a * suc b = mul-le-mul_right {m = 1} {n = suc a} (suc b) (omega arith) in
      rw q (both_full (upto (suc a) * m) (suc a * suc b) (omega arith) (omega arith))))
      (λ h.
      let p : upto (suc a) ≡ m = omega arith in
      let l : m * 1 ≤ m * upto (suc b) = mul-le-mul_left {m = 1} {n = upto (suc b)} m (omega arith) in
      let k : suc a * 1 ≤ suc a * suc b = mul-le-mul_left {m = 1} {n = suc b} (suc a) (omega arith) in
      rw p (both_full (m * upto (suc b)) (suc a * suc b) (omega arith) (omega arith)))
    where
      both_full : (x y : ℕ) → m ≤ x → m ≤ y → upto x ≡ upto y
      both_full x y p q = omega arith

  cap_times : (f : Items → ℕ) (k : ℕ) (xs : Items) → f (times k xs) ≡ k * f xs → upto (f (times k xs)) ≡ upto (upto k * upto (upto (f xs)))
  cap_times f k xs e = ap upto e ∙ (let c : upto (upto (f xs)) ≡ upto (f xs) = omega arith in rw c (sym (cap_product k (f xs))))

times_one : (xs : Items) → times 1 xs ≡ xs
times_one xs = times_suc 0 xs ∙ ap (join xs) (times_zero xs) ∙ join_end xs

mix_times : (k : ℕ) (xs : Items) → mix_of (named (times (suc k) xs)) ≡ mix_of (named xs)
mix_times zero xs = ap (λ z. mix_of (named z)) (times_one xs)
mix_times (suc k) xs =
    ap (λ z. mix_of (named z)) (times_suc (suc k) xs) ∙ ap mix_of (named_join xs (times (suc k) xs))
    ∙ mix_again (named xs) (named (times (suc k) xs)) (mix_times k xs)

second_power_lem : (k : ℕ) (xs : Items) → met_lead (lead (behind (times (suc k) xs))) ≡ second_power (suc k) (sum_of xs)
unfolding sum_of
second_power_lem zero xs = ap (λ z. met_lead (lead (behind z))) (times_one xs)
second_power_lem (suc k) xs =
    ap met_lead (second_times k xs) ∙ sym (lead_words (lead (behind xs)) (lead xs)) ∙ sym (rw (eq_false (suc (suc k)) 1 (λ (z : suc (suc k) ≡ 1). omega arith)) refl)

pub sum_times : (k : ℕ) (xs : Items) → sum_of (times k xs) ≡ power_of k (sum_of xs)
unfolding sum_of power_of
sum_times zero xs = ap sum_of (times_zero xs) ∙ sum_none
sum_times (suc k) xs =
    rw (eq_false (suc k) 0 (λ (z : suc k ≡ 0). omega arith))
    (same_sum _ _ _ _ _ _ _ _ _ _
    (cap_times 524288 (omega arith) rows (suc k) xs (rows_times (suc k) xs))
    (cap_times 65536 (omega arith) words (suc k) xs (words_times (suc k) xs))
    (ap met_mix (mix_times k xs)) (ap met_lead (lead_times k xs)) (second_power_lem k xs))
