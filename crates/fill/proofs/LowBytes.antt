-- Bytes without their high bits, as codes and as words of codes. Assumes nothing.
use Rattle.std.proofs.Common.{◌≡◌, ℕ, zero, suc, ◌+◌, ◌-◌, ◌*◌, ◌%◌, ◌^◌, ◌<◌, ◌≤◌, List, [], ◌∷◌, ◌++◌, length, get_or, take, drop, replicate, sym, refl, ap, ◌∙◌, ap₂, mod-eq_of_lt, arith, length-drop, length-take-le, take_all, take-add}
use lib.Bits.{bit_and, and_mask}
use Rattle.format.specs.Numbers.{Bytes, val}
use Rattle.format.specs.Bits.{num, spread}
use Rattle.format.specs.Objects.{characters}
use Rattle.format.specs.Tables.{codes, leaf_b}
use Rattle.format.proofs.Digits.{bytes_of, bytes_take, bytes_drop}
use Rattle.format.proofs.BitLaws.{spread_length, adjusted_lt}
use Rattle.format.proofs.Marker.{num_spread, adjusted_num}
use Rattle.format.proofs.MaskLaws.{mask, masked, and_mask_bytes}
use Rattle.wire.specs.WordsAt.{word_at}
use Rattle.wire.proofs.WordLaws.{word_val}
use Rattle.fill.specs.Texts.{lows, word_of, Spelt, PutSome}
use Rattle.fill.proofs.Letters.{spelt_none, spelt_more}

-- ---- bytes as codes
pub lows_append : (a b : List ℕ) → lows (a ++ b) ≡ lows a ++ lows b
unfolding codes leaf_b characters
lows_append [] b = refl
lows_append (x ∷ a) b = ap (λ l. x % 128 ∷ l) (lows_append a b)

pub lows_length : (a : List ℕ) → length (lows a) ≡ length a
unfolding codes leaf_b characters
lows_length [] = refl
lows_length (x ∷ a) = ap suc (lows_length a)

lows_bytes : (c : List ℕ) → Bytes (lows c)
unfolding codes leaf_b characters
lows_bytes [] = tt
lows_bytes (b ∷ c) = (omega arith, lows_bytes c)

masked_lows : (c : List ℕ) → masked 127 c ≡ lows c
unfolding masked codes leaf_b characters
masked_lows [] = refl
masked_lows (b ∷ c) = ap₂ ◌∷◌ (and_mask b 7) (masked_lows c)

-- ---- some bytes, under the mask of eight
module _ (p : List ℕ) (b : Bytes p) where
  bytes_behind : (j : ℕ) → Bytes (replicate j 0 ++ p)
  bytes_behind zero = b
  bytes_behind (suc j) = (omega arith, bytes_behind j)

  val_behind : (j : ℕ) → val (replicate j 0 ++ p) ≡ val p
  unfolding val
  val_behind zero = refl
  val_behind (suc j) = omega (arith, val_behind j)

  masked_behind : (j : ℕ) → val (masked 127 (replicate j 0 ++ p)) ≡ val (lows p)
  unfolding val masked
  masked_behind zero = ap val (masked_lows p)
  masked_behind (suc j) = omega (arith, and_mask 0 7, masked_behind j)

  long_behind : (j : ℕ) → length (replicate j 0 ++ p) ≡ j + length p
  long_behind zero = omega arith
  long_behind (suc j) = omega (arith, long_behind j)

  low_bits : (w : ℕ) → length p ≤ 8 → w ≡ val p → bit_and w 0x7f7f7f7f7f7f7f7f ≡ val (lows p)
  unfolding mask
  low_bits w h e =
      let j : ℕ = 8 - length p in
      let l : length (replicate j 0 ++ p) ≡ 8 = long_behind j ∙ omega arith in
      ap₂ (λ x n. bit_and x (mask 127 n)) (e ∙ sym (val_behind j)) (sym l) ∙ and_mask_bytes 127 (replicate j 0 ++ p) (omega arith) (bytes_behind j) ∙ masked_behind j

-- bytes, moved up in a word
bytes_word : (ds : List ℕ) (k : ℕ) → Bytes ds → length ds ≡ k → k ≤ 8 → val ds * 2 ^ (64 - 8 * k) ≡ word_of ds
bytes_word ds k b e h =
    let l : length (spread 8 ds) ≡ 8 * k = spread_length 8 ds ∙ omega arith in
    let a : word_of ds ≡ num (spread 8 ds) * 2 ^ (64 - length (spread 8 ds)) = adjusted_num 64 (spread 8 ds) (omega arith) in
    sym (a ∙ ap₂ (λ x n. x * 2 ^ (64 - n)) (num_spread ds b) l)

-- ---- as the code makes a word
pub low_word : (c : List ℕ) (i w : ℕ) → ((j : ℕ) → get_or c j 0 < 256) → i + 8 ≤ length c → w ≡ word_at i c → bit_and w 0x7f7f7f7f7f7f7f7f ≡ word_of (lows (take 8 (drop i c)))
low_word c i w small h e =
    let p : List ℕ = take 8 (drop i c) in
    let l : length p ≡ 8 = length-take-le 8 (drop i c) (omega (arith, length-drop i c)) in
    let b : Bytes p = bytes_take 8 (drop i c) (bytes_drop i c (bytes_of c small)) in
    let v : val (lows p) * 1 ≡ word_of (lows p) = bytes_word (lows p) 8 (lows_bytes p) (lows_length p ∙ l) (omega arith) in
    low_bits p b w (omega arith) (e ∙ word_val c i h) ∙ omega arith

pub low_some : (c : List ℕ) (w : ℕ) → ((j : ℕ) → get_or c j 0 < 256) → length c ≤ 8 → w ≡ val (take (length c) c)
    → bit_and w 0x7f7f7f7f7f7f7f7f * 2 ^ (64 - 8 * length c) % 2 ^ 64 ≡ word_of (lows c)
low_some c w small h e =
    let k : ℕ = length c in
    let b : Bytes c = bytes_of c small in
    ap (λ x. x * 2 ^ (64 - 8 * k) % 2 ^ 64) (low_bits c b w h (e ∙ ap val (take_all k c (omega arith))))
    ∙ ap (λ x. x % 2 ^ 64) (bytes_word (lows c) k (lows_bytes c) (lows_length c) h) ∙ mod-eq_of_lt (adjusted_lt 64 (spread 8 (lows c)))

-- ---- bytes after bytes
-- k of them behind i
pub low_more : (c : List ℕ) (n i k v : ℕ) (t₀ t u : List ℕ) → i + k ≤ length c → v ≡ word_of (lows (take k (drop i c)))
    → Spelt n (lows (take i c)) t₀ t → PutSome (n + i) k v t u → Spelt n (lows (take (i + k) c)) t₀ u
low_more c n i k v t₀ t u h e p q =
    let d : List ℕ = lows (take k (drop i c)) in
    let ld : length d ≡ k = lows_length (take k (drop i c)) ∙ length-take-le k (drop i c) (omega (arith, length-drop i c)) in
    let l : length (lows (take i c)) + n ≡ n + i = omega (arith, lows_length (take i c), length-take-le i c (omega arith)) in
    let j : lows (take (i + k) c) ≡ lows (take i c) ++ d = ap lows (take-add i k c) ∙ lows_append (take i c) (take k (drop i c)) in
    rw j (spelt_more n (n + i) (lows (take i c)) d t₀ t u p l (q d ld e))

-- the rest, behind eight at a time
pub low_rest : (c : List ℕ) (n i v : ℕ) (t₀ t u : List ℕ) → i ≤ length c → v ≡ word_of (lows (take (length c - i) (drop i c)))
    → Spelt n (lows (take i c)) t₀ t → PutSome (n + i) (length (take (length c - i) (drop i c))) v t u → Spelt n (lows c) t₀ u
low_rest c n i v t₀ t u h e p q =
    let k : ℕ = length c - i in
    let l : length (take k (drop i c)) ≡ k = length-take-le k (drop i c) (omega (arith, length-drop i c)) in
    let r = low_more c n i k v t₀ t u (omega arith) e p (rw l at q) in
    rw (take_all (i + k) c (omega arith)) at r

pub low_end : (c : List ℕ) (n i : ℕ) (t₀ t : List ℕ) → length c ≤ i → Spelt n (lows (take i c)) t₀ t → Spelt n (lows c) t₀ t
low_end c n i t₀ t h p = rw (take_all i c h) at p

-- so many words of eight are there
pub record Eighths (c : List ℕ) (n : ℕ) (t₀ t : List ℕ) (j : ℕ) : Type 0 where
  pub long : length t ≡ length t₀
  pub spelt : Spelt n (lows (take (8 * j) c)) t₀ t

pub eighths_start : (c : List ℕ) (n : ℕ) (t : List ℕ) → Eighths c n t t 0
unfolding codes characters
eighths_start c n t = record { long = refl; spelt = spelt_none n t }

pub eighths_more : (c : List ℕ) (n : ℕ) (t₀ t u : List ℕ) (j v : ℕ) → 8 * j + 8 ≤ length c → v ≡ word_of (lows (take 8 (drop (8 * j) c)))
    → Eighths c n t₀ t j → length u ≡ length t → PutSome (n + 8 * j) 8 v t u → Eighths c n t₀ u (j + 1)
eighths_more c n t₀ t u j v h e p l q =
    let k : 8 * j + 8 ≡ 8 * (j + 1) = omega arith in
    let long = p.long in
    record { long = omega arith; spelt = rw k at (low_more c n (8 * j) 8 v t₀ t u h e p.spelt q) }
