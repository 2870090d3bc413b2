-- Two rows and the items that stand there: the rows are alike exactly when the items are gone into or are the same. Assumes nothing.
use mathlib.Core.Path.{◌≡◌, refl, sym, ap, ap₂, ◌∙◌, subst}
use mathlib.Core.Logic.{◌≢◌}
use Prim.Native.Nat.{ℕ, ◌+◌, ◌*◌, ◌/◌, ◌≤◌, ◌<◌}
use native.Mathlib.Omega.{arith}
use mathlib.Core.Bool.{Bool, true, false, false≢true}
use mathlib.Core.List.{List, [], ◌++◌}
use lib.ListN.{length, take, drop}
use lib.Dec.{eqb}
use Rattle.format.specs.Bits.{spread, packed, words_for}
use Rattle.format.specs.Items.{Leaf, int, bits, char, bool, empty, xtra, Items, leaf_kind, text}
use Rattle.format.specs.Tables.{count, in_words, leaf_a, leaf_b, leaf_words, codes, claimed_leaf}
use Rattle.format.proofs.Choices.{if_lt_yes, if_lt_no, if_eq_yes, if_eq_no, by_eq, split_eq, eq_true, true_eq}
use Rattle.format.proofs.BitLaws.{packed_length, packed_spread, spread_length, words_enough}
use Rattle.format.proofs.TableLaws.{bits_back, leaf_kind_lem, codes_length, Characters, characters_of}
use Rattle.table.specs.Rows.{kind_at, a_at, b_at, rows_of, data_of, LeafRow, TextRow, leaf_at}
use Rattle.table.proofs.Standing.{leaf_is}
use Rattle.table.proofs.CodeLaws.{text_words_lem}
use Rattle.compare.specs.Walks.{same_words, data_from, DataIn, alike_for, rows_alike}
use Rattle.compare.proofs.WordLaws.{same_taken, taken_same, kept_words}

-- ---- rows that are alike
module _ (w v : List ℕ) (p q : ℕ) where
  pub alike_parts : rows_alike w v p q ≡ true → (kind_at w p ≡ kind_at v q) × (a_at w p ≡ a_at v q) × (alike_for (kind_at w p) w v p q ≡ true)
  unfolding rows_alike
  alike_parts e =
      by_eq (λ (b : Bool). b ≡ true → (kind_at w p ≡ kind_at v q) × (a_at w p ≡ a_at v q) × (alike_for (kind_at w p) w v p q ≡ true)) (kind_at w p) (kind_at v q)
      (λ k. by_eq (λ (b : Bool). b ≡ true → (kind_at w p ≡ kind_at v q) × (a_at w p ≡ a_at v q) × (alike_for (kind_at w p) w v p q ≡ true)) (a_at w p) (a_at v q)
      (λ a t. (k, a, t)) (λ a t. absurd (false≢true t)))
      (λ k t. absurd (false≢true t)) e

  pub alike_is : kind_at w p ≡ kind_at v q → a_at w p ≡ a_at v q → rows_alike w v p q ≡ alike_for (kind_at w p) w v p q
  unfolding rows_alike
  alike_is k a = if_eq_yes (kind_at w p) (kind_at v q) _ _ k ∙ if_eq_yes (a_at w p) (a_at v q) _ _ a

  pub kinds_differ : kind_at w p ≢ kind_at v q → false ≡ rows_alike w v p q
  unfolding rows_alike
  kinds_differ n = sym (if_eq_no (kind_at w p) (kind_at v q) _ _ n)

  pub a_differs : kind_at w p ≡ kind_at v q → a_at w p ≢ a_at v q → false ≡ rows_alike w v p q
  unfolding rows_alike
  a_differs k n = sym (if_eq_yes (kind_at w p) (kind_at v q) _ _ k ∙ if_eq_no (a_at w p) (a_at v q) _ _ n)

  -- by the kind
  pub for_bits : kind_at w p ≡ 2 → alike_for (kind_at w p) w v p q ≡ same_words w v (data_from w p) (data_from v q) (words_for (a_at w p))
  unfolding alike_for
  for_bits k = if_lt_yes (kind_at w p) 7 _ _ (omega arith) ∙ if_eq_yes (kind_at w p) 2 _ _ k

  pub for_plain : kind_at w p < 7 → kind_at w p ≢ 2 → alike_for (kind_at w p) w v p q ≡ eqb (b_at w p) (b_at v q)
  unfolding alike_for
  for_plain h k = if_lt_yes (kind_at w p) 7 _ _ h ∙ if_eq_no (kind_at w p) 2 _ _ k

  pub for_text : kind_at w p ≡ 9 → alike_for (kind_at w p) w v p q ≡ same_words w v (data_from w p) (data_from v q) (words_for (8 * a_at w p))
  unfolding alike_for
  for_text k = if_lt_no (kind_at w p) 7 _ _ (omega arith) ∙ if_eq_yes (kind_at w p) 9 _ _ k

  pub for_group : 7 ≤ kind_at w p → kind_at w p ≢ 9 → alike_for (kind_at w p) w v p q ≡ true
  unfolding alike_for
  for_group h k = if_lt_no (kind_at w p) 7 _ _ h ∙ if_eq_no (kind_at w p) 9 _ _ k

-- eight codes to a word
pub eights : (a : ℕ) → words_for (8 * a) ≡ (a + 7) / 8
unfolding words_for
eights a = omega arith

-- ---- as the code tells them: of one kind, with the same a
module _ (w v : List ℕ) (p q : ℕ) (k : kind_at w p ≡ kind_at v q) (a : a_at w p ≡ a_at v q) (b : Bool) where
  pub by_bits : kind_at w p ≡ 2 → b ≡ same_words w v (data_from w p) (data_from v q) ((a_at w p + 63) / 64) → b ≡ rows_alike w v p q
  unfolding words_for
  by_bits t e = e ∙ sym (alike_is w v p q k a ∙ for_bits w v p q t)

  pub by_text : kind_at w p ≡ 9 → b ≡ same_words w v (data_from w p) (data_from v q) ((a_at w p + 7) / 8) → b ≡ rows_alike w v p q
  by_text t e = e ∙ sym (alike_is w v p q k a ∙ for_text w v p q t ∙ ap (same_words w v (data_from w p) (data_from v q)) (eights (a_at w p)))

  pub by_plain : kind_at w p < 7 → kind_at w p ≢ 2 → b ≡ eqb (b_at w p) (b_at v q) → b ≡ rows_alike w v p q
  by_plain h n e = e ∙ sym (alike_is w v p q k a ∙ for_plain w v p q h n)

  pub by_group : 7 ≤ kind_at w p → kind_at w p ≢ 9 → b ≡ true → b ≡ rows_alike w v p q
  by_group h n e = e ∙ sym (alike_is w v p q k a ∙ for_group w v p q h n)

-- ---- rows that keep bits: n of them, behind d data words
pub record Keeps (w : List ℕ) (d p n : ℕ) (bs : List Bool) : Type 0 where
  pub number : length bs ≡ n
  pub place : b_at w p ≡ d
  pub contents : drop d (data_of w) ≡ in_words bs ++ drop (d + length (in_words bs)) (data_of w)
  pub stored : 4 + 3 * rows_of w + (d + length (in_words bs)) ≤ length w

words_number : (bs : List Bool) (n : ℕ) → length bs ≡ n → length (in_words bs) ≡ words_for n
unfolding in_words
words_number bs n e = packed_length 64 (words_for (length bs)) bs ∙ ap words_for e

module _ (w : List ℕ) (d p n : ℕ) (bs : List Bool) (k : Keeps w d p n bs) where
  -- where the code finds their words
  kept_at : take (words_for n) (drop (data_from w p) w) ≡ in_words bs
  kept_at =
      ap (λ z. take z (drop (data_from w p) w)) (sym (words_number bs n k.number))
      ∙ kept_words w d (data_from w p) (in_words bs) _ k.contents (ap (λ z. 3 * rows_of w + 4 + z) k.place)

  kept_in : data_from w p + words_for n ≤ length w
  kept_in = let s = k.stored in let b = k.place in omega (arith, words_number bs n k.number)

  -- as the code reads them
  pub kept_data : rows_of w ≤ 16384 → 3 * p + 7 ≤ length w → DataIn w p (words_for n)
  kept_data f h = record { row = h; fits = kept_in; few = f }

  pub kept_few : d + length (in_words bs) ≤ 16384 → n ≤ 1048576
  kept_few h = omega (arith, words_number bs n k.number, words_enough n)

module _ (w v : List ℕ) (d e p q n : ℕ) (a b : List Bool) (j : Keeps w d p n a) (k : Keeps v e q n b) where
  same_bits : same_words w v (data_from w p) (data_from v q) (words_for n) ≡ true → a ≡ b
  same_bits z =
      let i = sym (kept_at w d p n a j) ∙ same_taken w v (data_from w p) (data_from v q) (words_for n) (kept_in w d p n a j) (kept_in v e q n b k) z ∙ kept_at v e q n b k in
      sym (bits_back a []) ∙ ap₂ (λ o l. take o (spread 64 (l ++ []))) (j.number ∙ sym k.number) i ∙ bits_back b []

  bits_same : a ≡ b → same_words w v (data_from w p) (data_from v q) (words_for n) ≡ true
  bits_same z =
      taken_same w v (data_from w p) (data_from v q) (words_for n) (words_for n) (omega arith)
      (kept_at w d p n a j ∙ ap in_words z ∙ sym (kept_at v e q n b k))

-- ---- two leaves
pub bits_keeps : (w : List ℕ) (d p : ℕ) (bs : List Bool) → LeafRow w d p (bits bs) → Keeps w d p (a_at w p) bs
unfolding leaf_a leaf_b leaf_words
bits_keeps w d p bs r = record { number = sym r.a; place = r.b; contents = r.contents; stored = r.stored }

-- what a row claims where its kind keeps no data
claimed_plain : (k a b : ℕ) (ds es : List ℕ) → k ≢ 2 → claimed_leaf k a b ds ≡ claimed_leaf k a b es
unfolding claimed_leaf
claimed_plain k a b ds es n =
    split_eq k 1 (λ e. if_eq_yes k 1 _ _ e ∙ sym (if_eq_yes k 1 _ _ e))
    (λ m. if_eq_no k 1 _ _ m ∙ if_eq_no k 2 _ _ n ∙ sym (if_eq_no k 1 _ _ m ∙ if_eq_no k 2 _ _ n))

pub bits_of : (l : Leaf) → leaf_kind l ≡ 2 → (bs : List Bool) × (l ≡ bits bs)
unfolding leaf_kind
bits_of (int z) e = absurd (omega arith)
bits_of (bits bs) e = (bs, refl)
bits_of (char c) e = absurd (omega arith)
bits_of (bool b) e = absurd (omega arith)
bits_of empty e = absurd (omega arith)
bits_of (xtra n) e = absurd (omega arith)

-- of leaves that are no BITS, b tells the value alone
plain_b : (l : Leaf) (d e : ℕ) → leaf_kind l ≢ 2 → leaf_b d l ≡ leaf_b e l
unfolding leaf_kind leaf_b
plain_b (int z) d e n = refl
plain_b (bits bs) d e n = absurd (n refl)
plain_b (char c) d e n = refl
plain_b (bool b) d e n = refl
plain_b empty d e n = refl
plain_b (xtra x) d e n = refl

module _ (w v : List ℕ) (d e p q : ℕ) where
  bits_alike : (a b : List Bool) → LeafRow w d p (bits a) → LeafRow v e q (bits b) → rows_alike w v p q ≡ true → a ≡ b
  unfolding leaf_kind
  bits_alike a b r s t =
      let i = alike_parts w v p q t in
      same_bits w v d e p q (a_at w p) a b (bits_keeps w d p a r) (subst (λ n. Keeps v e q n b) (sym i.1) (bits_keeps v e q b s))
      (sym (for_bits w v p q r.kind) ∙ i.2)

  pub leaf_alike : (l m : Leaf) → LeafRow w d p l → LeafRow v e q m → rows_alike w v p q ≡ true → l ≡ m
  unfolding leaf_at
  leaf_alike l m r s t =
      let i = alike_parts w v p q t in
      split_eq (kind_at w p) 2
      (λ k. let x = bits_of l (sym r.kind ∙ k) in let y = bits_of m (sym s.kind ∙ sym i.0 ∙ k) in
      x.1 ∙ ap bits (bits_alike x.0 y.0 (subst (LeafRow w d p) x.1 r) (subst (LeafRow v e q) y.1 s) t) ∙ sym y.1)
      (λ k.
      let b : b_at w p ≡ b_at v q = true_eq _ _ (sym (for_plain w v p q (omega (arith, r.kind, leaf_kind_lem l)) k) ∙ i.2) in
      sym (leaf_is w d p p l r) ∙ claimed_plain (kind_at w p) (a_at w p) (b_at w p) (data_of w) (data_of v) k
      ∙ rw (i.0, i.1, b) (leaf_is v e q q m s))

  pub alike_leaf : (l : Leaf) → LeafRow w d p l → LeafRow v e q l → rows_alike w v p q ≡ true
  alike_leaf l r s =
      let k : kind_at w p ≡ kind_at v q = r.kind ∙ sym s.kind in
      let a : a_at w p ≡ a_at v q = r.a ∙ sym s.a in
      alike_is w v p q k a
      ∙ (split_eq (kind_at w p) 2
      (λ z. let x = bits_of l (sym r.kind ∙ z) in
      for_bits w v p q z ∙ bits_same w v d e p q (a_at w p) x.0 x.0 (bits_keeps w d p x.0 (subst (LeafRow w d p) x.1 r))
      (subst (λ n. Keeps v e q n x.0) (sym a) (bits_keeps v e q x.0 (subst (LeafRow v e q) x.1 s))) refl)
      (λ z. for_plain w v p q (omega (arith, r.kind, leaf_kind_lem l)) z
      ∙ eq_true (b_at w p) (b_at v q) (r.b ∙ plain_b l d e (λ o. z (r.kind ∙ o)) ∙ sym s.b)))

-- ---- two strings
pub text_keeps : (w : List ℕ) (d p : ℕ) (c : Items) → TextRow w d p c → Keeps w d p (8 * a_at w p) (spread 8 (codes c))
text_keeps w d p c r =
    let n = text_words_lem c in
    record {
      number = spread_length 8 (codes c) ∙ ap (λ z. 8 * z) (codes_length c ∙ sym r.a);
      place = r.b;
      contents = rw n at r.contents;
      stored = rw n at r.stored;
    }

-- the codes of a string, in bits, tell its characters
text_by_bits : (c d : Items) → Characters c → Characters d → count c ≡ count d → spread 8 (codes c) ≡ spread 8 (codes d) → c ≡ d
text_by_bits c d i j n e =
    let k : length (codes c) ≡ length (codes d) = codes_length c ∙ n ∙ sym (codes_length d) in
    sym i.are ∙ ap text (sym (packed_spread 8 (codes c) i.below) ∙ ap₂ (packed 8) k e ∙ packed_spread 8 (codes d) j.below) ∙ j.are

module _ (w v : List ℕ) (d e p q : ℕ) where
  pub text_alike : (a b : Items) → TextRow w d p a → TextRow v e q b → rows_alike w v p q ≡ true → a ≡ b
  text_alike a b r s t =
      let i = alike_parts w v p q t in
      text_by_bits a b (characters_of a r.chars r.good) (characters_of b s.chars s.good) (sym r.a ∙ i.1 ∙ s.a)
      (same_bits w v d e p q (8 * a_at w p) (spread 8 (codes a)) (spread 8 (codes b)) (text_keeps w d p a r)
      (subst (λ n. Keeps v e q (8 * n) (spread 8 (codes b))) (sym i.1) (text_keeps v e q b s)) (sym (for_text w v p q r.kind) ∙ i.2))

  pub alike_text : (c : Items) → TextRow w d p c → TextRow v e q c → rows_alike w v p q ≡ true
  alike_text c r s =
      let a : a_at w p ≡ a_at v q = r.a ∙ sym s.a in
      alike_is w v p q (r.kind ∙ sym s.kind) a
      ∙ (for_text w v p q r.kind ∙ bits_same w v d e p q (8 * a_at w p) (spread 8 (codes c)) (spread 8 (codes c)) (text_keeps w d p c r)
      (subst (λ n. Keeps v e q (8 * n) (spread 8 (codes c))) (sym a) (text_keeps v e q c s)) refl)
