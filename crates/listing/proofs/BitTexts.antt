-- The bits of data words as text, one after another. Assumes nothing.
use mathlib.Core.Path.{◌≡◌, refl, sym, ap, ◌∙◌}
use mathlib.Core.Bool.{Bool, false}
use mathlib.Core.List.{List, [], ◌∷◌, ◌++◌, append-nil}
use Prim.Native.Nat.{ℕ, zero, suc, ◌+◌, ◌-◌, ◌*◌, ◌/◌, ◌%◌, ◌^◌, ◌≤◌, ◌<◌}
use native.Mathlib.Numerals.{add-one}
use native.Mathlib.Omega.{arith}
use lib.ListN.{length, take, drop, get_or, set, length-drop, drop_of_length-le}
use lib.Seq.{drop-drop, drop-cons, drop-append-add, get_or-take, take-suc, take_all, length-take-le}
use Rattle.format.specs.Bits.{bit, bits_of, spread, adjusted}
use Rattle.format.specs.Answers.{over}
use Rattle.format.specs.Lent.{over_at}
use Rattle.format.proofs.BitLaws.{adjusted_div, adjusted_mod, adjusted_bits, bits_length_lem, spread_length}
use Rattle.format.proofs.Over.{set_at, over_next}
use Rattle.listing.specs.Lines.{bit_text}

-- ---- one bit
bit_of_word : (j : ℕ) (bs : List Bool) → j < 64 → adjusted 64 bs / 2 ^ (63 - j) % 2 ≡ adjusted 1 (drop j bs)
bit_of_word j bs h =
    let q : 64 ≡ j + 1 + (63 - j) = omega arith in
    ap (λ z. adjusted z bs / 2 ^ (63 - j) % 2) q ∙ ap (λ z. z % 2) (adjusted_div (j + 1) (63 - j) bs) ∙ adjusted_mod j 1 bs

bit_first : (bs : List Bool) (i : ℕ) → i < length bs → adjusted 1 (drop i bs) ≡ bit (get_or bs i false)
unfolding adjusted
bit_first bs i h = ap (adjusted 1) (drop-cons bs i false h) ∙ omega arith

text_at_lem : (bs : List Bool) (i : ℕ) → i < length bs → get_or (bit_text bs) i 0 ≡ 0x30 + bit (get_or bs i false)
unfolding bit_text
text_at_lem [] i h = absurd (omega arith)
text_at_lem (b ∷ bs) zero h = refl
text_at_lem (b ∷ bs) (suc i) h = text_at_lem bs i (omega arith)

pub text_length : (bs : List Bool) → length (bit_text bs) ≡ length bs
unfolding bit_text
text_length [] = refl
text_length (b ∷ bs) = ap suc (text_length bs)

-- ---- words and the bits that they are spread to
-- a word is the bits that it is spread to
word_bits : (ws : List ℕ) (k : ℕ) → ((i : ℕ) → get_or ws i 0 < 2 ^ 64) → k < length ws → get_or ws k 0 ≡ adjusted 64 (drop (64 * k) (spread 64 ws))
unfolding spread
word_bits [] k b h = absurd (omega arith)
word_bits (x ∷ ws) zero b h = sym (adjusted_bits 64 x (spread 64 ws) (b 0))
word_bits (x ∷ ws) (suc k) b h =
    let e : 64 * suc k ≡ length (bits_of 64 x) + 64 * k = omega (arith, bits_length_lem 64 x) in
    word_bits ws k (λ i. b (suc i)) (omega arith) ∙ ap (adjusted 64) (sym (ap (λ n. drop n (bits_of 64 x ++ spread 64 ws)) e ∙ drop-append-add (bits_of 64 x) (spread 64 ws) (64 * k)))

module _ (ws : List ℕ) (n : ℕ) (h : n ≤ 64 * length ws) where
  abbrev chars : List ℕ
  chars = bit_text (take n (spread 64 ws))

  taken : length (take n (spread 64 ws)) ≡ n
  taken = length-take-le n (spread 64 ws) (omega (arith, spread_length 64 ws))

  pub chars_length : length (bit_text (take n (spread 64 ws))) ≡ n
  chars_length = text_length (take n (spread 64 ws)) ∙ taken

  char_at : ((i : ℕ) → get_or ws i 0 < 2 ^ 64) → (i : ℕ) → i < n → 0x30 + get_or ws (i / 64) 0 / 2 ^ (63 - i % 64) % 2 ≡ get_or chars i 0
  char_at b i l =
      let bs = spread 64 ws in
      let e : 64 * (i / 64) + i % 64 ≡ i = omega arith in
      ap (λ z. 0x30 + z / 2 ^ (63 - i % 64) % 2) (word_bits ws (i / 64) b (omega arith))
      ∙ ap (λ z. 0x30 + z)
      (bit_of_word (i % 64) (drop (64 * (i / 64)) bs) (omega arith)
      ∙ ap (adjusted 1) (drop-drop (i % 64) (64 * (i / 64)) bs ∙ ap (λ z. drop z bs) e)
      ∙ bit_first bs i (omega (arith, spread_length 64 ws))
      ∙ ap bit (sym (get_or-take n bs i false l)))
      ∙ sym (text_at_lem (take n bs) i (omega (arith, taken)))

  -- one turn of the loop over the bits
  pub char_turn : ((i : ℕ) → get_or ws i 0 < 2 ^ 64) → (t₀ t : List ℕ) (i v : ℕ) → i < n → i < length t → t ≡ over (take i (bit_text (take n (spread 64 ws)))) t₀
      → v ≡ get_or ws (i / 64) 0 / 2 ^ (63 - i % 64) % 2
      → set t i (0x30 + v) ≡ over (take (i + 1) (bit_text (take n (spread 64 ws)))) t₀
  char_turn b t₀ t i v l m e w =
      let k : length (take i chars) ≡ i = length-take-le i chars (omega (arith, chars_length)) in
      let s : take (i + 1) chars ≡ take i chars ++ (get_or chars i 0 ∷ []) = ap (λ z. take z chars) (add-one i) ∙ take-suc chars i 0 (omega (arith, chars_length)) in
      set_at i (0x30 + v) t m ∙ over_next (take i chars) ((0x30 + v) ∷ []) t₀ t i e (sym k)
      ∙ ap (λ r. over r t₀) (ap (λ x. take i chars ++ (x ∷ [])) (ap (λ z. 0x30 + z) w ∙ char_at b i l) ∙ sym s)

  -- all of them
  pub chars_all : (t₀ t : List ℕ) (i : ℕ) → n ≤ i → n ≡ length t₀ → t ≡ over (take i (bit_text (take n (spread 64 ws)))) t₀ → t ≡ bit_text (take n (spread 64 ws))
  unfolding over
  chars_all t₀ t i l m e =
      e ∙ ap (λ r. over r t₀) (take_all i chars (omega (arith, chars_length)))
      ∙ ap (λ r. chars ++ r) (drop_of_length-le t₀ {i = length chars} (omega (arith, chars_length))) ∙ append-nil chars

  -- put behind what is written
  pub chars_put : (p : ℕ) (t ys : List ℕ) → p + length (bit_text (take n (spread 64 ws))) ≤ length t
      → ys ≡ bit_text (take (length (take (p + n - p) (drop p t))) (spread 64 ws))
      → take p t ++ (ys ++ drop (p + n - p) (drop p t)) ≡ over_at p (bit_text (take n (spread 64 ws))) t
  unfolding over_at over
  chars_put p t ys m e =
      let k : p + n - p ≡ n = omega arith in
      let q : length (take (p + n - p) (drop p t)) ≡ n = rw k (length-take-le n (drop p t) (omega (arith, length-drop p t, chars_length))) in
      rw (k, chars_length) (ap (λ y. take p t ++ (y ++ drop n (drop p t))) (e ∙ ap (λ z. bit_text (take z (spread 64 ws))) q))
