-- A row that is neither a STRUC's nor an EDT's is in order exactly where it is that of a leaf or of a string. Assumes nothing.
use mathlib.Core.Path.{◌≡◌, refl, sym, ◌∙◌, ap, subst}
use mathlib.Core.List.{List, [], ◌++◌}
use mathlib.Core.Bool.{Bool, true}
use Prim.Native.Nat.{ℕ, ◌+◌, ◌-◌, ◌*◌, ◌%◌, ◌^◌, ◌<◌, ◌≤◌}
use native.Mathlib.Omega.{arith}
use native.Mathlib.Nat.{mod-one}
use lib.ListN.{length, take, drop, get_or, length-drop, take-append-drop, get_or-append}
use lib.Seq.{take_at, drop-drop, get_or-drop, get_or-take, length-take-le}
use lib.Signed.{mag}
use Rattle.format.specs.Numbers.{signed}
use Rattle.format.specs.Bits.{is_one, spread, packed, words_for}
use Rattle.format.specs.Items.{Leaf, int, bits, char, bool, empty, xtra, Items, text, leaf_kind, proper_leaf, proper}
use Rattle.format.specs.Tables.{count, in_words, leaf_a, leaf_b, leaf_words, codes, text_words}
use Rattle.format.proofs.Choices.{clash, split, split_eq, lt_true, true_lt, true_eq, eq_true}
use Rattle.format.proofs.TableLaws.{leaf_kind_lem, codes_length, text_length, characters_of}
use Rattle.format.proofs.Digits.{mag_signed, twos_signed, twos_lt}
use Rattle.format.proofs.BitLaws.{bit_is_one, spread_length, packed_length, words_enough, bit_lt}
use Rattle.table.specs.Rows.{kind_at, a_at, b_at, data_of, LeafRow, TextRow, data_at, data_to}
use Rattle.table.specs.InOrder.{words_low, values, plain_ok, last_word, bits_ok, all_low, low_words, text_ok, row_ok}
use Rattle.table.proofs.RowLaws.{values_other, plain_a, plain_values, bits_first, bits_long, bits_spare, text_both, text_codes, data_bits, data_text, data_none, row_bits, row_plain}
use Rattle.table.proofs.BitRows.{words_back, last_spare}
use Rattle.table.proofs.CodeLaws.{text_words_lem, bits_words, in_words_lem, codes_text, string_text, proper_text, packed_whole, low_list, low_words_lem, low_fewer, low_more}

-- ---- rows with one number
-- the leaf of such a row, whose words do not depend on the data words before it
pub record Plain (k a b : ℕ) : Type 0 where
  item : Leaf
  kind : k ≡ leaf_kind item
  none : a ≡ leaf_a item
  code : (d : ℕ) → b ≡ leaf_b d item
  good : proper_leaf item ≡ true
  nothing : leaf_words item ≡ []

pub plain_leaf : (k a b : ℕ) → b < 2 ^ 64 → plain_ok k a b ≡ true → Plain k a b
unfolding values leaf_kind leaf_a leaf_b leaf_words proper_leaf
plain_leaf k a b l t =
    split_eq a 0
    (λ z.
    let h : b < values k = true_lt b (values k) (sym (plain_values k a b z) ∙ t) in
    let at : (j : ℕ) → k ≡ j → b < values j = λ j e. subst (λ (i : ℕ). b < values i) e h in
    split_eq k 1
    (λ e.
    let m = mag_signed 8 b (omega arith) in
    record { item = int (signed 8 b); kind = e; none = z; code = λ d. sym (twos_signed 8 b (omega arith)); good = lt_true (mag (signed 8 b)) (2 ^ 63) (omega arith); nothing = refl })
    (λ n1. split_eq k 3 (λ e. record { item = char b; kind = e; none = z; code = λ d. refl; good = lt_true b 128 (at 3 e); nothing = refl })
    (λ n3. split_eq k 4 (λ e. record { item = bool (is_one b); kind = e; none = z; code = λ d. sym (bit_is_one b (at 4 e)); good = refl; nothing = refl })
    (λ n4. split_eq k 5 (λ e. let q : b < 1 = at 5 e in record { item = empty; kind = e; none = z; code = λ d. omega arith; good = refl; nothing = refl })
    (λ n5. split_eq k 6 (λ e. record { item = xtra b; kind = e; none = z; code = λ d. refl; good = lt_true b 4 (at 6 e); nothing = refl })
    (λ n6. absurd (omega (arith, values_other k n1 n3 n4 n5 n6))))))))
    (λ n. clash (plain_ok k a b) t (plain_a k a b n))

-- ---- what is found at a row
pub record LeafFound (w : List ℕ) (d p : ℕ) : Type 0 where
  pub item : Leaf
  pub row : LeafRow w d p item
  pub takes : data_at w p ≡ length (leaf_words item)

-- the room that a header in order leaves for the data words behind the first d
module _ (w : List ℕ) (d : ℕ) (room : 3 * get_or w 0 0 + 4 + get_or w 3 0 ≤ length w) (little : get_or w 3 0 ≤ 16384) (few : d ≤ get_or w 3 0) where
  pub plain_found : (p : ℕ) → 3 * p + 7 ≤ length w → (kind_at w p ≡ 2 → ⊥) → kind_at w p < 7 → Plain (kind_at w p) (a_at w p) (b_at w p) → LeafFound w d p
  plain_found p h k y q =
      let n : length (leaf_words q.item) ≡ 0 = ap length q.nothing in
      let z : d + 0 ≡ d = omega arith in
      record {
        item = q.item;
        row = record {
          kind = q.kind;
          a = q.none;
          b = q.code d;
          good = q.good;
          contents = rw q.nothing (rw z refl);
          within = h;
          stored = omega arith;
          little = omega arith;
        };
        takes = data_none w p k (λ z. omega arith) ∙ sym n;
      }

  -- the last word, among the data words
  last_at : (n : ℕ) → 0 < words_for n → last_word w d n ≡ get_or (drop d (data_of w)) (words_for n - 1) 0
  unfolding last_word
  last_at n h =
      let i : 3 * get_or w 0 0 + 3 + d + words_for n ≡ 4 + 3 * get_or w 0 0 + (d + (words_for n - 1)) = omega arith in
      ap (λ z. get_or w z 0) i ∙ sym (get_or-drop d (data_of w) (words_for n - 1) 0 ∙ get_or-drop (4 + 3 * get_or w 0 0) w (d + (words_for n - 1)) 0)

  bits_true : (a b : ℕ) → bits_ok w d a b ≡ true → (b ≡ d) × (a ≤ 64 * (get_or w 3 0 - d)) × (last_word w d a % 2 ^ (64 * words_for a - a) ≡ 0)
  bits_true a b t =
      split_eq b d
      (λ e. split (64 * (get_or w 3 0 - d)) a (λ l. clash _ t (bits_long w d a b e l))
      (λ g. (e, g, true_eq _ 0 (sym (bits_spare w d a b e g) ∙ t))))
      (λ n. clash _ t (bits_first w d a b n))

  -- the data words of n bits, and the bits in them
  abbrev words_at : ℕ → List ℕ
  words_at n = take (words_for n) (drop d (data_of w))

  abbrev bits_at : ℕ → List Bool
  bits_at n = take n (spread 64 (words_at n))

  module _ (n : ℕ) (fits : n ≤ 64 * (get_or w 3 0 - d)) (spare : last_word w d n % 2 ^ (64 * words_for n - n) ≡ 0) (bound : (i : ℕ) → get_or w i 0 < 2 ^ 64) where
    enough : d + words_for n ≤ get_or w 3 0
    unfolding words_for
    enough = omega arith

    words_length : length (words_at n) ≡ words_for n
    words_length =
        let e = enough in
        length-take-le (words_for n) (drop d (data_of w)) (omega (arith, length-drop d (data_of w), length-drop (4 + 3 * get_or w 0 0) w))

    bits_length_lem : length (bits_at n) ≡ n
    bits_length_lem = length-take-le n (spread 64 (words_at n)) (omega (arith, spread_length 64 (words_at n), words_length, words_enough n))

    word_bound : (i : ℕ) → i < words_for n → get_or (words_at n) i 0 < 2 ^ 64
    word_bound i h =
        rw (get_or-take (words_for n) (drop d (data_of w)) i 0 h, get_or-drop d (data_of w) i 0, get_or-drop (4 + 3 * get_or w 0 0) w (d + i) 0)
        (bound (4 + 3 * get_or w 0 0 + (d + i)))

    spare_at : get_or (words_at n) (words_for n - 1) 0 % 2 ^ (64 * words_for n - n) ≡ 0
    spare_at =
        split 0 (words_for n)
        (λ h. rw (get_or-take (words_for n) (drop d (data_of w)) (words_for n - 1) 0 (omega arith), ← last_at n h) spare)
        (λ g. let z : 64 * words_for n - n ≡ 0 = omega arith in rw z (mod-one _))

    words_are : leaf_words (bits (bits_at n)) ≡ words_at n
    unfolding leaf_words in_words
    words_are = rw bits_length_lem (words_back (words_for n) n (words_at n) words_length (words_enough n) (unfold words_for in omega arith) word_bound spare_at)

    bits_contents : drop d (data_of w) ≡ leaf_words (bits (bits_at n)) ++ drop (d + length (leaf_words (bits (bits_at n)))) (data_of w)
    bits_contents =
        rw (words_are, words_length)
        (sym (ap (λ z. words_at n ++ z) (sym (drop-drop (words_for n) d (data_of w))) ∙ take-append-drop (words_for n) (drop d (data_of w))))

  pub bits_found : (p : ℕ) → 3 * p + 7 ≤ length w → kind_at w p ≡ 2 → bits_ok w d (a_at w p) (b_at w p) ≡ true → ((i : ℕ) → get_or w i 0 < 2 ^ 64) → LeafFound w d p
  unfolding leaf_kind leaf_a leaf_b proper_leaf
  bits_found p h k t bound =
      let q = bits_true (a_at w p) (b_at w p) t in
      let e = enough (a_at w p) q.1 q.2 bound in
      let n : length (leaf_words (bits (bits_at (a_at w p)))) ≡ words_for (a_at w p) = ap length (words_are (a_at w p) q.1 q.2 bound) ∙ words_length (a_at w p) q.1 q.2 bound in
      record {
        item = bits (bits_at (a_at w p));
        row = record {
          kind = k;
          a = sym (bits_length_lem (a_at w p) q.1 q.2 bound);
          b = q.0;
          good = refl;
          contents = bits_contents (a_at w p) q.1 q.2 bound;
          within = h;
          stored = omega arith;
          little = omega arith;
        };
        takes = data_bits w p k ∙ sym n;
      }

  -- a row in order is that of a leaf
  pub leaf_found : (R p : ℕ) → 3 * p + 7 ≤ length w → kind_at w p < 7 → d ≡ data_to w p → row_ok w R p ≡ true → ((i : ℕ) → get_or w i 0 < 2 ^ 64) → LeafFound w d p
  leaf_found R p h l e t bound =
      split_eq (kind_at w p) 2 (λ k. bits_found p h k (rw (← e) at (sym (row_bits w R p k) ∙ t)) bound)
      (λ k. plain_found p h k l (plain_leaf (kind_at w p) (a_at w p) (b_at w p) (bound (3 * p + 6)) (sym (row_plain w R p l k) ∙ t)))

  -- ---- and the other way round
  pub record LeafOk (p : ℕ) (l : Leaf) : Type 0 where
    pub bits : kind_at w p ≡ 2 → bits_ok w d (a_at w p) (b_at w p) ≡ true
    pub plain : (kind_at w p ≡ 2 → ⊥) → plain_ok (kind_at w p) (a_at w p) (b_at w p) ≡ true
    pub takes : data_at w p ≡ length (leaf_words l)

  plain_ok_lem : (p : ℕ) (l : Leaf) → LeafRow w d p l → (leaf_kind l ≡ 2 → ⊥) → leaf_a l ≡ 0 → leaf_b d l < values (leaf_kind l) → leaf_words l ≡ [] → LeafOk p l
  plain_ok_lem p l r k a b n =
      let kk = r.kind in
      let y = leaf_kind_lem l in
      record {
        bits = λ z. absurd (k (sym kk ∙ z));
        plain = λ z. plain_values _ _ _ (r.a ∙ a) ∙ rw (r.b, r.kind) (lt_true _ _ b);
        takes = data_none w p (λ z. k (sym kk ∙ z)) (λ z. omega arith) ∙ sym (ap length n);
      }

  -- bits that stand in the data words
  stream_ok : (b : ℕ) (bs : List Bool) → b ≡ d → drop d (data_of w) ≡ in_words bs ++ drop (d + length (in_words bs)) (data_of w) → d + words_for (length bs) ≤ get_or w 3 0 →
      bits_ok w d (length bs) b ≡ true
  unfolding in_words
  stream_ok b bs e contents m =
      let n = length bs in
      bits_spare w d n b e (omega (arith, words_enough n)) ∙ eq_true (last_word w d n % 2 ^ (64 * words_for n - n)) 0
      (split 0 (words_for n)
      (λ h.
      let c : last_word w d n ≡ get_or (packed 64 (words_for n) bs) (words_for n - 1) 0 =
      last_at n h ∙ ap (λ z. get_or z (words_for n - 1) 0) contents
      ∙ get_or-append (packed 64 (words_for n) bs) (drop (d + length (packed 64 (words_for n) bs)) (data_of w)) 0 (words_for n - 1) (omega (arith, packed_length 64 (words_for n) bs)) in
      rw c (last_spare (words_for n) n bs refl (words_enough n) (unfold words_for in omega arith)))
      (λ g. let z : 64 * words_for n - n ≡ 0 = omega arith in rw z (mod-one _)))

  pub leaf_ok : (p : ℕ) (l : Leaf) → LeafRow w d p l → d + length (leaf_words l) ≤ get_or w 3 0 → LeafOk p l
  unfolding leaf_kind leaf_a leaf_b leaf_words in_words proper_leaf values
  leaf_ok p (int z) r m = plain_ok_lem p (int z) r (λ k. omega arith) refl (twos_lt 8 z) refl
  leaf_ok p (bits bs) r m =
      let n = packed_length 64 (words_for (length bs)) bs in
      record {
        bits = λ k. rw r.a (stream_ok (b_at w p) bs r.b r.contents (unfold in_words in omega arith));
        plain = λ k. absurd (k r.kind);
        takes = data_bits w p r.kind ∙ rw r.a (sym n);
      }
  leaf_ok p (char c) r m = plain_ok_lem p (char c) r (λ k. omega arith) refl (true_lt c 128 r.good) refl
  leaf_ok p (bool b) r m = plain_ok_lem p (bool b) r (λ k. omega arith) refl (bit_lt b) refl
  leaf_ok p empty r m = plain_ok_lem p empty r (λ k. omega arith) refl (omega arith) refl
  leaf_ok p (xtra n) r m = plain_ok_lem p (xtra n) r (λ k. omega arith) refl (true_lt n 4 r.good) refl

  pub leaf_right : (R p : ℕ) (l : Leaf) → LeafRow w d p l → kind_at w p < 7 → d ≡ data_to w p → d + length (leaf_words l) ≤ get_or w 3 0 →
      (row_ok w R p ≡ true) × (data_at w p ≡ length (leaf_words l))
  leaf_right R p l r h e m =
      let o = leaf_ok p l r m in
      (split_eq (kind_at w p) 2 (λ k. row_bits w R p k ∙ rw (← e) (o.bits k)) (λ k. row_plain w R p h k ∙ o.plain k), o.takes)

  -- ---- a string's row
  pub record TextFound (p : ℕ) : Type 0 where
    pub item : Items
    pub row : TextRow w d p item
    pub takes : data_at w p ≡ length (text_words item)

  -- the codes in its words
  low_there : (n : ℕ) → d + n ≤ get_or w 3 0 → low_words w (3 * get_or w 0 0 + 4 + d) n ≡ words_low (take n (drop d (data_of w)))
  low_there n h =
      let e : 4 + 3 * get_or w 0 0 + d ≡ 3 * get_or w 0 0 + 4 + d = omega arith in
      low_list n (3 * get_or w 0 0 + 4 + d) w (omega arith) ∙ ap (λ l. words_low (take n l)) (ap (λ i. drop i w) (sym e) ∙ sym (drop-drop d (4 + 3 * get_or w 0 0) w))

  pub text_found : (p : ℕ) → 3 * p + 7 ≤ length w → kind_at w p ≡ 9 → text_ok w d (a_at w p) (b_at w p) ≡ true → ((i : ℕ) → get_or w i 0 < 2 ^ 64) → TextFound p
  text_found p h k t bound =
      let a = a_at w p in
      let y = text_both w d a (b_at w p) t in
      let q = bits_true (8 * a) (b_at w p) y.0 in
      let e = enough (8 * a) q.1 q.2 bound in
      let bs = bits_at (8 * a) in
      let cs = packed 8 a bs in
      let n : length bs ≡ 8 * a = bits_length_lem (8 * a) q.1 q.2 bound in
      let are : leaf_words (bits bs) ≡ words_at (8 * a) = words_are (8 * a) q.1 q.2 bound in
      let ws : text_words (text cs) ≡ leaf_words (bits bs) = text_words_lem (text cs) ∙ ap in_words (ap (spread 8) (codes_text cs) ∙ packed_whole a bs n) ∙ sym (bits_words bs) in
      let m : length (text_words (text cs)) ≡ words_for (8 * a) = ap length ws ∙ ap length are ∙ words_length (8 * a) q.1 q.2 bound in
      let here : packed 64 (words_for (length bs)) bs ≡ words_at (8 * a) = sym (in_words_lem bs) ∙ sym (bits_words bs) ∙ are in
      let low : all_low (packed 8 (8 * words_for (length bs)) bs) ≡ true =
      sym (low_words_lem (words_for (length bs)) bs) ∙ ap words_low here ∙ sym (low_there (words_for (8 * a)) e) ∙ y.1 in
      record {
        item = text cs;
        row = record {
          kind = k;
          a = sym (sym (codes_length (text cs)) ∙ ap length (codes_text cs) ∙ packed_length 8 a bs);
          b = q.0;
          chars = string_text cs;
          good = proper_text cs ∙ low_fewer a (8 * words_for (length bs)) bs (omega (arith, words_enough (length bs))) low;
          contents = subst (λ (l : List ℕ). drop d (data_of w) ≡ l ++ drop (d + length l) (data_of w)) (sym ws) (bits_contents (8 * a) q.1 q.2 bound);
          within = h;
          stored = omega arith;
          little = omega arith;
        };
        takes = data_text w p k ∙ sym m;
      }

  pub text_ok_lem : (p : ℕ) (c : Items) → TextRow w d p c → d + length (text_words c) ≤ get_or w 3 0 → (text_ok w d (a_at w p) (b_at w p) ≡ true) × (data_at w p ≡ length (text_words c))
  text_ok_lem p c r m =
      let bs = spread 8 (codes c) in
      let n : length bs ≡ 8 * count c = spread_length 8 (codes c) ∙ ap (λ z. 8 * z) (codes_length c) in
      let l = text_length c in
      let g : all_low (codes c) ≡ true = sym (proper_text (codes c)) ∙ ap proper (characters_of c r.chars r.good).are ∙ r.good in
      let ws : text_words c ≡ packed 64 (words_for (8 * count c)) bs = text_words_lem c ∙ in_words_lem bs ∙ ap (λ k. packed 64 (words_for k) bs) n in
      let front : take (words_for (8 * count c)) (drop d (data_of w)) ≡ text_words c =
      ap (take (words_for (8 * count c))) r.contents ∙ take_at (text_words c) _ (words_for (8 * count c)) l in
      let there : drop d (data_of w) ≡ in_words bs ++ drop (d + length (in_words bs)) (data_of w) =
      subst (λ (z : List ℕ). drop d (data_of w) ≡ z ++ drop (d + length z) (data_of w)) (text_words_lem c) r.contents in
      let b : bits_ok w d (8 * count c) (b_at w p) ≡ true =
      rw n at (stream_ok (b_at w p) bs r.b there (rw n (omega arith))) in
      let low : low_words w (3 * get_or w 0 0 + 4 + d) (words_for (8 * count c)) ≡ true =
      low_there (words_for (8 * count c)) (omega arith) ∙ ap words_low (front ∙ ws) ∙ low_words_lem (words_for (8 * count c)) bs ∙ low_more (8 * words_for (8 * count c)) (codes c) g in
      (rw r.a (text_codes w d (count c) (b_at w p) b ∙ low), data_text w p r.kind ∙ rw r.a (sym l))
