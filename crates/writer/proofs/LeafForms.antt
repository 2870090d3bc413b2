-- The normal form of a leaf from its row: what the code measures and writes, part by part. Assumes nothing.
use mathlib.Core.Path.{◌≡◌, refl, sym, ◌∙◌, ap, ap₂}
use mathlib.Core.List.{List, [], ◌∷◌, ◌++◌}
use mathlib.Core.Bool.{Bool, true}
use Prim.Native.Nat.{ℕ, suc, ◌+◌, ◌-◌, ◌*◌, ◌/◌, ◌%◌, ◌^◌, ◌<◌, ◌≤◌}
use native.Mathlib.Omega.{arith}
use native.Mathlib.Nat.{mod-eq_of_lt}
use lib.ListN.{length, get_or, length-append}
use lib.Pow.{pow_mono, shl_exact}
use lib.IntN.{pos}
use Rattle.format.specs.Choice.{if_eq}
use Rattle.format.specs.Numbers.{be, width, signed}
use Rattle.format.specs.Bits.{bit, num, adjusted, packed, bytes_for, words_for}
use Rattle.format.specs.Items.{Leaf, int, bits, char, bool, empty, xtra, leaf_kind}
use Rattle.format.specs.Tables.{from_words, leaf_b}
use Rattle.format.specs.Normal.{normal_size, with_size, normal_int, sbitstr, normal_bits, normal_leaf}
use Rattle.format.proofs.Choices.{if_lt_yes, if_lt_no, split}
use Rattle.format.proofs.Digits.{be_length, width_fits, width_one, mag_signed}
use Rattle.format.proofs.BitLaws.{adjusted_div}
use Rattle.format.proofs.Shortest.{int_shortest}
use Rattle.format.proofs.Marker.{num_true, marker_ge, marker_lt}
use Rattle.table.specs.Rows.{kind_at, a_at, b_at, data_of, LeafRow, LeafAt, leaf_at, Kept, kept_bytes}
use Rattle.table.proofs.RowData.{BitsRow, bits_at, int_at_lem, plain_code, kept_at, kept_length}
use Rattle.writer.specs.Forms.{lbits_size, bits_length, bits_form, marker, numbered, plain_byte}
use Rattle.writer.proofs.NumberLaws.{byte_front, pos_is, size_most, width_log}

-- an integer takes at most nine bytes
pub int_most : (v : ℕ) → v < 2 ^ 64 → length (normal_int (signed 8 v)) ≤ 9
int_most v h = int_shortest 8 (signed 8 v) (omega arith) (mag_signed 8 v (omega arith))

-- the bits behind a marker, from their word
marked_word_lem : (n : ℕ) (bs : List Bool) → length bs ≡ n → n ≤ 64 → num (true ∷ bs) ≡ 2 ^ n + adjusted 64 bs / 2 ^ (64 - n)
unfolding num
marked_word_lem n bs e h =
    let q : n + (64 - n) ≡ 64 = omega arith in
    num_true bs ∙ ap₂ ◌+◌ (ap (λ z. 2 ^ z) e) (ap (λ z. adjusted z bs) e ∙ sym (ap (λ z. adjusted z bs / 2 ^ (64 - n)) (sym q) ∙ adjusted_div n (64 - n) bs))

marked_nothing : (bs : List Bool) → length bs ≡ 0 → 1 ≡ num (true ∷ bs)
unfolding num bit
marked_nothing [] e = refl
marked_nothing (b ∷ bs) e = absurd (omega arith)

one_shl : (k : ℕ) → k < 64 → 1 * 2 ^ k % 2 ^ 64 ≡ 2 ^ k
one_shl k h = shl_exact {a = 1} 1 k 64 (omega arith) (omega arith) ∙ omega arith

-- n bits, which stand in the data words from b on
module _ (w : List ℕ) (b n : ℕ) (r : Kept w b n) where
  abbrev stream : List Bool
  stream = from_words n b (data_of w)

  -- ---- SBITSTR
  pub marked_none : n ≡ 0 → 1 ≡ marker w b n
  unfolding marker
  marked_none z = marked_nothing stream (r.number ∙ z)

  pub marked_some : 0 < n → n < 64 → marker w b n ≡ 2 ^ n + get_or w (3 * get_or w 0 0 + 4 + b + 0) 0 / 2 ^ (64 - n)
  unfolding marker words_for
  marked_some z l =
      marked_word_lem n stream r.number (omega arith) ∙ ap (λ x. 2 ^ n + x / 2 ^ (64 - n)) (sym (kept_at w b n r 0 (omega arith)))

  pub marked_lt : n < 64 → marker w b n < 2 ^ 64
  unfolding marker
  marked_lt l = let m = r.number in omega (arith, marker_lt stream, pow_mono {i = suc (length stream)} {j = 64} (omega arith))

  -- as the code adds it up
  pub marked_sum : (x : ℕ) → 0 < n → n < 64 → x ≡ get_or w (3 * get_or w 0 0 + 4 + b + 0) 0 → 1 * 2 ^ n % 2 ^ 64 + x / 2 ^ (64 - n) ≡ marker w b n
  marked_sum x z l e = ap₂ ◌+◌ (one_shl n l) (ap (λ y. y / 2 ^ (64 - n)) e) ∙ sym (marked_some z l)

  pub marked_small : (x : ℕ) → 0 < n → n < 64 → x ≡ get_or w (3 * get_or w 0 0 + 4 + b + 0) 0 → 1 * 2 ^ n % 2 ^ 64 + x / 2 ^ (64 - n) < 2 ^ 64
  marked_small x z l e = omega (arith, marked_sum x z l e, marked_lt l)

  -- as the code writes it: a type-byte and the bytes of the number
  pub sbits_bytes : (v k : ℕ) → n < 64 → v ≡ marker w b n → k ≡ width v → bits_form w b n ≡ (0xf0 + k % 8) ∷ be k (v % 256 ^ k)
  unfolding bits_form marker normal_leaf normal_bits sbitstr
  sbits_bytes v k l e f =
      let m = r.number in
      if_lt_yes (length stream) 64 _ _ (omega arith) ∙ rw (← e, ← f) (rw (mod-eq_of_lt {n = v} {m = 256 ^ k} (rw f (width_fits v))) refl)

  pub sbits_length : (v k : ℕ) → n < 64 → v ≡ marker w b n → k ≡ width v → length (bits_form w b n) ≡ 1 + k
  sbits_length v k l e f = ap length (sbits_bytes v k l e f) ∙ omega (arith, be_length k (v % 256 ^ k))

  -- in one byte
  pub sbits_one : (v : ℕ) → n < 64 → v ≡ marker w b n → v < 256 → bits_form w b n ≡ 0xf1 ∷ be 1 (v % 256 ^ 1)
  sbits_one v l e h = sbits_bytes v 1 l e (sym (width_one v h))

  pub sbits_two : (v : ℕ) → n < 64 → v ≡ marker w b n → v < 256 → length (bits_form w b n) ≡ 2
  sbits_two v l e h = sbits_length v 1 l e (sym (width_one v h))

  -- ---- LBITSTR
  pub numbered_is : numbered w b n ≡ normal_int (signed 8 n) ++ kept_bytes w b n
  unfolding numbered
  numbered_is = ap (λ z. normal_int z ++ kept_bytes w b n) (sym (pos_is n (let m = r.small in omega arith)))

  -- as the code adds it up, where `k` bytes say the number of bits
  pub numbered_size : (k : ℕ) → k ≡ length (normal_int (signed 8 n)) → k + (n + 7) / 8 ≡ length (numbered w b n)
  numbered_size k e = sym (ap length numbered_is ∙ length-append (normal_int (signed 8 n)) (kept_bytes w b n) ∙ ap₂ ◌+◌ (sym e) (kept_length w b n))

  pub lbits_form : (m : ℕ) → 64 ≤ n → m ≡ length (numbered w b n) → bits_form w b n ≡ (0xc1 ∷ normal_size m) ++ numbered w b n
  unfolding bits_form numbered normal_leaf normal_bits with_size kept_bytes
  lbits_form m g e =
      let z = r.number in
      rw e
      (if_lt_no (length stream) 64 _ _ (omega arith)
      ∙ ap (λ j. 0xc1 ∷ with_size (normal_int (pos j) ++ packed 8 (bytes_for j) stream)) z)

  pub lbits_length : (m : ℕ) → 64 ≤ n → m ≡ length (numbered w b n) → length (bits_form w b n) ≡ 1 + length (normal_size m) + m
  lbits_length m g e = ap length (lbits_form m g e) ∙ omega (arith, length-append (0xc1 ∷ normal_size m) (numbered w b n))

  -- ---- the length of a BITS by its number of bits
  pub bits_length_is : bits_length n ≡ length (bits_form w b n)
  unfolding bits_length lbits_size bytes_for
  bits_length_is =
      let m = r.number in
      split n 64
      (λ l.
      let v : ℕ = marker w b n in
      let k : width v ≡ 1 + length stream / 8 = unfold marker in width_log (length stream) (num (true ∷ stream)) (marker_ge stream) (marker_lt stream) in
      if_lt_yes n 64 _ _ l ∙ sym (sbits_length v (width v) l refl refl ∙ omega arith))
      (λ g.
      let c : lbits_size n ≡ length (numbered w b n) = unfold numbered in sym (length-append (normal_int (pos n)) (kept_bytes w b n) ∙ ap (λ k. length (normal_int (pos n)) + k) (kept_length w b n)) in
      if_lt_no n 64 _ _ g ∙ sym (lbits_length (lbits_size n) g c))

pub ruleset marking = (marked_none, marked_sum, marked_small)

pub ruleset as_sbits = (sbits_bytes, sbits_length, sbits_one, sbits_two)

pub ruleset as_lbits = (numbered_is, numbered_size, lbits_form, lbits_length, int_most)

-- the row of a BITS
pub row_form : (w : List ℕ) (p : ℕ) → BitsRow w p → normal_leaf (leaf_at w p) ≡ bits_form w (b_at w p) (a_at w p)
unfolding bits_form
row_form w p r = ap normal_leaf r.is

-- ---- items of one byte
pub plain_form : (w : List ℕ) (d p : ℕ) (l : Leaf) → LeafRow w d p l → (kind_at w p ≡ 1 → ⊥) → (kind_at w p ≡ 2 → ⊥) → normal_leaf l ≡ plain_byte (kind_at w p) (b_at w p) ∷ []
unfolding leaf_kind leaf_b normal_leaf plain_byte if_eq
plain_form w d p (int z) r n m = absurd (n r.kind)
plain_form w d p (bits bs) r n m = absurd (m r.kind)
plain_form w d p (char c) r n m = sym (ap (λ z. z ∷ []) (ap₂ plain_byte r.kind r.b))
plain_form w d p (bool b) r n m = sym (ap (λ z. z ∷ []) (ap₂ plain_byte r.kind r.b))
plain_form w d p empty r n m = sym (ap (λ z. z ∷ []) (ap₂ plain_byte r.kind r.b))
plain_form w d p (xtra x) r n m = sym (ap (λ z. z ∷ []) (ap₂ plain_byte r.kind r.b))

-- the length of a BITS, as the code adds it up
pub bits_short : (n : ℕ) → n < 64 → 2 + n / 8 ≡ bits_length n
unfolding bits_length
bits_short n l = sym (if_lt_yes n 64 _ _ l)

pub bits_long : (n i d z : ℕ) → 64 ≤ n → n < 2 ^ 63 → i ≡ length (normal_int (signed 8 n)) → d ≡ (n + 7) / 8 → z ≡ length (normal_size (i + d)) → 1 + z + (i + d) ≡ bits_length n
unfolding bits_length lbits_size bytes_for
bits_long n i d z g l e q f =
    let s : i + d ≡ lbits_size n = ap₂ ◌+◌ (e ∙ ap (λ k. length (normal_int k)) (pos_is n l)) q in
    ap (λ k. 1 + k + (i + d)) f ∙ ap (λ k. 1 + length (normal_size k) + k) s ∙ sym (if_lt_no n 64 _ _ g)

pub ruleset bits_lengths = (bits_short, bits_long, int_most, size_most)

-- ---- the row of a leaf, as the code reads it
module _ (w : List ℕ) (p : ℕ) (k a b : ℕ) (ek : k ≡ kind_at w p) (ea : a ≡ a_at w p) (eb : b ≡ b_at w p) where
  pub int_row_form : k ≡ 1 → normal_leaf (leaf_at w p) ≡ normal_int (signed 8 b)
  unfolding normal_leaf
  int_row_form e = ap normal_leaf (int_at_lem w p (sym ek ∙ e)) ∙ ap (λ v. normal_int (signed 8 v)) (sym eb)

  pub bits_row_kept : LeafAt w p → k ≡ 2 → Kept w b a
  bits_row_kept r e = rw (ea, eb) (bits_at w p r (sym ek ∙ e)).kept

  pub bits_row_form : LeafAt w p → k ≡ 2 → normal_leaf (leaf_at w p) ≡ bits_form w b a
  bits_row_form r e = row_form w p (bits_at w p r (sym ek ∙ e)) ∙ ap₂ (bits_form w) (sym eb) (sym ea)

  pub plain_row_code : LeafAt w p → (k ≡ 1 → ⊥) → (k ≡ 2 → ⊥) → (k ≡ 3 → b < 128) × ((k ≡ 3 → ⊥) → b < 4)
  plain_row_code r n m = rw (ek, eb) (plain_code w r.before p (leaf_at w p) r.row (λ z. n (ek ∙ z)) (λ z. m (ek ∙ z)))

  pub plain_row_form : LeafAt w p → (k ≡ 1 → ⊥) → (k ≡ 2 → ⊥) → normal_leaf (leaf_at w p) ≡ plain_byte k b ∷ []
  plain_row_form r n m = plain_form w r.before p (leaf_at w p) r.row (λ z. n (ek ∙ z)) (λ z. m (ek ∙ z)) ∙ ap (λ z. z ∷ []) (ap₂ plain_byte (sym ek) (sym eb))

pub ruleset as_leaf = (int_row_form, bits_row_kept, bits_row_form, plain_row_code, plain_row_form, byte_front)
