-- The data of a row: the leaf that it claims by its kind, and the bits or the codes that its data words hold. Assumes nothing.
use mathlib.Core.Path.{◌≡◌, sym, ◌∙◌, ap, ap₂, subst}
use mathlib.Core.List.{List, ◌++◌}
use mathlib.Core.Bool.{Bool}
use Prim.Native.Nat.{ℕ, ◌+◌, ◌*◌, ◌/◌, ◌<◌, ◌≤◌}
use native.Mathlib.Omega.{arith}
use lib.ListN.{length, take, drop, get_or, get_or-append}
use lib.Seq.{get_or-drop}
use Rattle.format.specs.Numbers.{signed}
use Rattle.format.specs.Bits.{spread, adjusted, packed, bytes_for, words_for}
use Rattle.format.specs.Items.{Leaf, int, bits, char, bool, empty, xtra, Items, leaf_kind, proper_leaf}
use Rattle.format.specs.Tables.{in_words, from_words, codes, leaf_a, leaf_b, leaf_words, text_words, claimed_leaf}
use Rattle.format.proofs.Choices.{if_eq_yes, if_eq_no, true_lt}
use Rattle.format.proofs.BitLaws.{packed_length, packed_at, spread_length, words_enough, packed_spread, bit_lt}
use Rattle.format.proofs.TableLaws.{bits_back, codes_length, text_length, characters_of}
use Rattle.table.specs.Rows.{kind_at, a_at, b_at, data_of, LeafRow, leaf_at, LeafAt, TextRow, text_at, TextAt, Kept, kept_bytes}
use Rattle.table.proofs.CodeLaws.{text_words_lem, in_words_lem}

-- ---- the leaf of a row by its kind
pub int_at_lem : (w : List ℕ) (p : ℕ) → kind_at w p ≡ 1 → leaf_at w p ≡ int (signed 8 (b_at w p))
unfolding leaf_at claimed_leaf
int_at_lem w p k = if_eq_yes (kind_at w p) 1 _ _ k

-- a CHAR, a BOOL, an EMPTY or an XTRA has a code
pub plain_code : (w : List ℕ) (d p : ℕ) (l : Leaf) → LeafRow w d p l → (kind_at w p ≡ 1 → ⊥) → (kind_at w p ≡ 2 → ⊥) →
    (kind_at w p ≡ 3 → b_at w p < 128) × ((kind_at w p ≡ 3 → ⊥) → b_at w p < 4)
unfolding leaf_kind leaf_b proper_leaf
plain_code w d p (int z) r n m = absurd (n r.kind)
plain_code w d p (bits bs) r n m = absurd (m r.kind)
plain_code w d p (char c) r n m = let b = r.b in ((λ k. omega (arith, true_lt c 128 r.good)), (λ k. absurd (k r.kind)))
plain_code w d p (bool x) r n m = let b = r.b in let k = r.kind in ((λ z. absurd (omega arith)), (λ z. omega (arith, bit_lt x)))
plain_code w d p empty r n m = let b = r.b in let k = r.kind in ((λ z. absurd (omega arith)), (λ z. omega arith))
plain_code w d p (xtra x) r n m = let b = r.b in let k = r.kind in ((λ z. absurd (omega arith)), (λ z. omega (arith, true_lt x 4 r.good)))

-- ---- bits in data words
pub kept_length : (w : List ℕ) (b n : ℕ) → length (kept_bytes w b n) ≡ (n + 7) / 8
unfolding kept_bytes bytes_for
kept_length w b n = packed_length 8 (bytes_for n) (from_words n b (data_of w))

module _ (w : List ℕ) (b n : ℕ) (r : Kept w b n) where
  -- a data word, where the code finds it
  pub kept_at : (i : ℕ) → i < words_for n → get_or w (3 * get_or w 0 0 + 4 + b + i) 0 ≡ adjusted 64 (drop (64 * i) (from_words n b (data_of w)))
  kept_at i h =
      let bs = from_words n b (data_of w) in
      let e : 3 * get_or w 0 0 + 4 + b + i ≡ 4 + 3 * get_or w 0 0 + (b + i) = omega arith in
      ap (λ z. get_or w z 0) e ∙ sym (get_or-drop b (data_of w) i 0 ∙ get_or-drop (4 + 3 * get_or w 0 0) w (b + i) 0)
      ∙ ap (λ z. get_or z i 0) r.words
      ∙ get_or-append (packed 64 (words_for n) bs) _ 0 i (omega (arith, packed_length 64 (words_for n) bs))
      ∙ packed_at 64 (words_for n) bs i h

  pub kept_in : (i : ℕ) → i < words_for n → 3 * get_or w 0 0 + 4 + b + i < length w
  kept_in i h = let s = r.stored in omega arith

-- ---- the bits of a BITS
pub record BitsRow (w : List ℕ) (p : ℕ) : Type 0 where
  pub is : leaf_at w p ≡ bits (from_words (a_at w p) (b_at w p) (data_of w))
  pub kept : Kept w (b_at w p) (a_at w p)
  pub within : 3 * p + 7 ≤ length w

pub bits_at : (w : List ℕ) (p : ℕ) → LeafAt w p → kind_at w p ≡ 2 → BitsRow w p
unfolding leaf_at claimed_leaf leaf_words in_words leaf_a leaf_b
bits_at w p h k =
    let bs : List Bool = from_words (a_at w p) (b_at w p) (data_of w) in
    let is : leaf_at w p ≡ bits bs = if_eq_no (kind_at w p) 1 _ _ (λ z. omega arith) ∙ if_eq_yes (kind_at w p) 2 _ _ k in
    let r : LeafRow w h.before p (bits bs) = subst (λ (l : Leaf). LeafRow w h.before p l) is h.row in
    let n = packed_length 64 (words_for (length bs)) bs in
    let a : length bs ≡ a_at w p = sym r.a in
    let b = r.b in
    let s = r.stored in
    let l = r.little in
    let m : words_for (length bs) ≡ words_for (a_at w p) = ap words_for a in
    let q : h.before + length (packed 64 (words_for (length bs)) bs) ≡ b_at w p + words_for (a_at w p) = omega arith in
    record {
      is = is;
      kept = record {
        number = a;
        words = ap (λ z. drop z (data_of w)) b ∙ r.contents ∙ ap₂ (λ k z. packed 64 k bs ++ drop z (data_of w)) m q;
        stored = omega arith;
        small = omega (arith, words_enough (a_at w p));
      };
      within = r.within;
    }

-- ---- the codes of a string
bits_from_lem : (bs : List Bool) (m n b : ℕ) (ds : List ℕ) → n ≡ length bs → drop b ds ≡ in_words bs ++ drop m ds → from_words n b ds ≡ bs
unfolding from_words
bits_from_lem bs m n b ds e h = ap₂ (λ j t. take j (spread 64 t)) e h ∙ bits_back bs (drop m ds)

bytes_of : (a : ℕ) → bytes_for (8 * a) ≡ a
unfolding bytes_for
bytes_of a = omega arith

kept_by : (w : List ℕ) (b n k : ℕ) (bs : List Bool) → bytes_for n ≡ k → from_words n b (data_of w) ≡ bs → kept_bytes w b n ≡ packed 8 k bs
unfolding kept_bytes
kept_by w b n k bs q e = ap₂ (packed 8) q e

pub text_kept : (w : List ℕ) (p : ℕ) → TextAt w p → Kept w (b_at w p) (8 * a_at w p) × (codes (text_at w p) ≡ kept_bytes w (b_at w p) (8 * a_at w p))
text_kept w p h = of_row w p h.before (text_at w p) h.row
  where
    of_row : (w : List ℕ) (p d : ℕ) (c : Items) → TextRow w d p c → Kept w (b_at w p) (8 * a_at w p) × (codes c ≡ kept_bytes w (b_at w p) (8 * a_at w p))
    of_row w p d c r =
        let k = characters_of c r.chars r.good in
        let bs = spread 8 (codes c) in
        let a = r.a in
        let b = r.b in
        let n : length bs ≡ 8 * a_at w p = spread_length 8 (codes c) ∙ ap (λ z. 8 * z) (codes_length c ∙ sym a) in
        let ws : text_words c ≡ packed 64 (words_for (8 * a_at w p)) bs = text_words_lem c ∙ in_words_lem bs ∙ ap (λ j. packed 64 (words_for j) bs) n in
        let l : length (text_words c) ≡ words_for (8 * a_at w p) = text_length c ∙ ap (λ z. words_for (8 * z)) (sym a) in
        let there : drop (b_at w p) (data_of w) ≡ text_words c ++ drop (d + length (text_words c)) (data_of w) = ap (λ z. drop z (data_of w)) b ∙ r.contents in
        let e : from_words (8 * a_at w p) (b_at w p) (data_of w) ≡ bs =
        bits_from_lem bs (d + length (text_words c)) (8 * a_at w p) (b_at w p) (data_of w) (sym n) (there ∙ ap (λ z. z ++ drop (d + length (text_words c)) (data_of w)) (text_words_lem c)) in
        let q : bytes_for (8 * a_at w p) ≡ length (codes c) = bytes_of (a_at w p) ∙ a ∙ sym (codes_length c) in
        let s = r.stored in
        let i = r.little in (
          record {
            number = ap length e ∙ n;
            words = there ∙ ap₂ (λ x m. x ++ drop m (data_of w)) (ws ∙ ap (packed 64 (words_for (8 * a_at w p))) (sym e)) (ap₂ ◌+◌ (sym b) l);
            stored = omega arith;
            small = omega (arith, words_enough (8 * a_at w p));
          },
          sym (packed_spread 8 (codes c) k.below) ∙ sym (kept_by w (b_at w p) (8 * a_at w p) (length (codes c)) bs q e),
        )
