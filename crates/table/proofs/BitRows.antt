-- Bits, the words that hold them and their bytes: words whose spare bits are 0 are those of their bits, and what a part of a
-- word is. Assumes nothing.
use mathlib.Core.Path.{◌≡◌, refl, sym, ap, ap₂, ◌∙◌}
use Prim.Native.Nat.{ℕ, zero, suc, ◌+◌, ◌-◌, ◌*◌, ◌/◌, ◌%◌, ◌^◌, ◌≤◌, ◌<◌}
use native.Mathlib.Nat.{pow-suc, mod-eq_of_lt, div-add-mod', mod-lt, div-lt_iff_lt-mul, mod-mod_of_dvd, dvd-mul_right}
use native.Mathlib.Omega.{arith}
use mathlib.Core.Bool.{Bool}
use mathlib.Core.List.{List, [], ◌∷◌, ◌++◌}
use lib.ListN.{length, take, drop, get_or, length-drop}
use lib.Seq.{take-append-le, take-append-add, drop_at, drop-length}
use lib.Pow.{pow_pos, pow-add, shl_exact}
use Rattle.format.specs.Numbers.{be}
use Rattle.format.specs.Bits.{bits_of, spread, adjusted, packed}
use Rattle.format.proofs.BitLaws.{bit_is_one, bits_length_lem, zero_adjusted, adjusted_div, adjusted_mod, adjusted_bits}
use Rattle.format.proofs.Marker.{pow_bytes}

-- the bits behind a last one are 0
spare_zero : (n w : ℕ) (bs : List Bool) → length bs ≡ n → n ≤ w → adjusted w bs % 2 ^ (w - n) ≡ 0
spare_zero n w bs e h =
    let q : w ≡ n + (w - n) = omega arith in
    ap (λ z. adjusted z bs % 2 ^ (w - n)) q ∙ adjusted_mod n (w - n) bs
    ∙ ap (adjusted (w - n)) (ap (λ z. drop z bs) (sym e) ∙ drop-length bs) ∙ zero_adjusted (w - n)

-- ---- numbers, their bits, and the numbers again
pow_mod : (k n x : ℕ) → n ≤ k → x % 2 ^ k % 2 ^ (k - n) ≡ x % 2 ^ (k - n)
pow_mod k n x h =
    let e : 2 ^ k ≡ 2 ^ (k - n) * 2 ^ n = (let q : k - n + n ≡ k = omega arith in ap (λ z. 2 ^ z) (sym q) ∙ pow-add 2 (k - n) n) in
    rw e (mod-mod_of_dvd (2 ^ (k - n)) x (dvd-mul_right (2 ^ (k - n)) (2 ^ n)))

-- the first n bits of a number whose other bits are 0
adjusted_first : (w n x : ℕ) → n ≤ w → x < 2 ^ w → x % 2 ^ (w - n) ≡ 0 → adjusted w (take n (bits_of w x)) ≡ x
unfolding bits_of adjusted
adjusted_first zero zero x h l z = omega arith
adjusted_first zero (suc n) x h l z = absurd (omega arith)
adjusted_first (suc w) zero x h l z =
    let e : suc w - 0 ≡ suc w = omega arith in
    let y : x % 2 ^ suc w ≡ 0 = rw e at z in
    sym y ∙ mod-eq_of_lt l
adjusted_first (suc w) (suc n) x h l z =
    let e : suc w - suc n ≡ w - n = omega arith in
    let y : x % 2 ^ (w - n) ≡ 0 = rw e at z in
    let t : x / 2 ^ w < 2 = (div-lt_iff_lt-mul (pow_pos w)).1 (omega (arith, pow-suc 2 w)) in
    rw (bit_is_one (x / 2 ^ w) t, adjusted_first w n (x % 2 ^ w) (omega arith) (mod-lt x (pow_pos w)) (pow_mod w n x (omega arith) ∙ y)) (div-add-mod' x (2 ^ w))

-- words are those of their first n bits, where the spare bits of the last are 0
pub words_back : (k n : ℕ) (ws : List ℕ) → length ws ≡ k → n ≤ 64 * k → 64 * k < n + 64 → ((i : ℕ) → i < k → get_or ws i 0 < 2 ^ 64) →
    get_or ws (k - 1) 0 % 2 ^ (64 * k - n) ≡ 0 → packed 64 k (take n (spread 64 ws)) ≡ ws
unfolding packed spread
words_back zero n [] e h l b z = refl
words_back zero n (x ∷ ws) e h l b z = absurd (omega arith)
words_back (suc k) n [] e h l b z = absurd (omega arith)
words_back (suc zero) n (x ∷ []) e h l b z =
    let m = bits_length_lem 64 x in
    ap (λ t. t ∷ []) (ap (adjusted 64) (take-append-le n (bits_of 64 x) [] (omega arith)) ∙ adjusted_first 64 n x (omega arith) (b 0 (omega arith)) z)
words_back (suc zero) n (x ∷ y ∷ ws) e h l b z = absurd (omega arith)
words_back (suc (suc k)) n (x ∷ ws) e h l b z =
    let m = bits_length_lem 64 x in
    let q : n ≡ length (bits_of 64 x) + (n - 64) = omega arith in
    let t : take n (bits_of 64 x ++ spread 64 ws) ≡ bits_of 64 x ++ take (n - 64) (spread 64 ws) =
    ap (λ j. take j (bits_of 64 x ++ spread 64 ws)) q ∙ take-append-add (bits_of 64 x) (spread 64 ws) (n - 64) in
    let s : 64 * suc (suc k) - n ≡ 64 * suc k - (n - 64) = omega arith in
    let q1 : suc (suc k) - 1 ≡ suc k = omega arith in
    let r : suc k - 1 ≡ k = omega arith in
    ap₂ ◌∷◌ (ap (adjusted 64) t ∙ adjusted_bits 64 x (take (n - 64) (spread 64 ws)) (b 0 (omega arith)))
    (ap (λ j. packed 64 (suc k) (drop 64 j)) t ∙ ap (packed 64 (suc k)) (drop_at (bits_of 64 x) (take (n - 64) (spread 64 ws)) 64 m)
    ∙ words_back (suc k) (n - 64) ws (omega arith) (omega arith) (omega arith) (λ i v. b (suc i) (omega arith)) (rw r (rw (q1, s) at z)))

-- the spare bits of the last word are 0
pub last_spare : (k n : ℕ) (bs : List Bool) → length bs ≡ n → n ≤ 64 * k → 64 * k < n + 64 → get_or (packed 64 k bs) (k - 1) 0 % 2 ^ (64 * k - n) ≡ 0
unfolding packed
last_spare zero n bs e h l = let z : n ≡ 0 = omega arith in rw z refl
last_spare (suc zero) n bs e h l = spare_zero n 64 bs e h
last_spare (suc (suc k)) n bs e h l =
    let s : 64 * suc (suc k) - n ≡ 64 * suc k - (n - 64) = omega arith in
    let q1 : suc (suc k) - 1 ≡ suc k = omega arith in
    let r : suc k - 1 ≡ k = omega arith in
    rw (s, q1) (rw r at (last_spare (suc k) (n - 64) (drop 64 bs) (length-drop 64 bs ∙ omega arith) (omega arith) (omega arith)))

-- ---- a word's bytes
pub packed_be : (k : ℕ) (bs : List Bool) → packed 8 k bs ≡ be k (adjusted (8 * k) bs)
unfolding packed be
packed_be zero bs = refl
packed_be (suc k) bs =
    let e : 8 + 8 * k ≡ 8 * suc k = omega arith in
    let a : adjusted (8 * suc k) bs / 256 ^ k ≡ adjusted 8 bs = ap₂ (λ n m. adjusted n bs / m) (sym e) (sym (pow_bytes k)) ∙ adjusted_div 8 (8 * k) bs in
    let b : adjusted (8 * suc k) bs % 256 ^ k ≡ adjusted (8 * k) (drop 8 bs) = ap₂ (λ n m. adjusted n bs % m) (sym e) (sym (pow_bytes k)) ∙ adjusted_mod 8 (8 * k) bs in
    sym (ap₂ (λ x y. x ∷ be k y) a b ∙ ap (λ l. adjusted 8 bs ∷ l) (sym (packed_be k (drop 8 bs))))

-- a power of 2 in a word
pub power : (k : ℕ) → k < 64 → 1 * 2 ^ k % 2 ^ 64 ≡ 2 ^ k
power k h = shl_exact {a = 1} 1 k 64 (omega arith) (omega arith) ∙ omega arith
