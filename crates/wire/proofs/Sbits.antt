-- An SBITSTR: its marker is found by the leading zeros of its first byte, and its bits fill one word. Assumes nothing.
use Prim.Native.Nat.{ℕ, suc, ◌+◌, ◌-◌, ◌*◌, ◌%◌, ◌^◌, ◌≤◌, ◌<◌}
use mathlib.Core.Path.{◌≡◌, sym, ap, ◌∙◌}
use mathlib.Core.Logic.{◌≢◌}
use mathlib.Core.Bool.{Bool, true}
use mathlib.Core.List.{List, [], ◌∷◌}
use native.Mathlib.Nat.{add-mul, mul-le-mul_right, mul-lt-mul_of_pos_right}
use native.Mathlib.Omega.{arith}
use lib.Count.{count_leading_zeros, leading_top}
use lib.ListN.{length, get_or}
use lib.Pow.{pow_pos, pow-add}
use Rattle.format.specs.Numbers.{Bytes, val}
use Rattle.format.specs.Bits.{spread, adjusted, num, after_marker}
use Rattle.format.proofs.Digits.{val_lt, val_pos}
use Rattle.format.proofs.Marker.{num_true, num_lt, num_spread, marked, marker_ge, marker_lt, pow_bytes, log_unique, adjusted_num}
use Rattle.wire.specs.Heads.{IsSbits}

-- the bits of bytes behind their marker
abbrev pub stream : List ℕ → List Bool
stream p = after_marker (spread 8 p)

stream_num : (b : ℕ) (q : List ℕ) → Bytes (b ∷ q) → b ≢ 0 → num (true ∷ stream (b ∷ q)) ≡ val (b ∷ q)
stream_num b q h z =
    let e = num_spread (b ∷ q) h in
    marked (spread 8 (b ∷ q)) (rw e (val_pos b q z)) ∙ e

-- a number whose first byte is between two powers of 2 is so too, further up
first_bounds : (b : ℕ) (q : List ℕ) (j : ℕ) → Bytes (b ∷ q) → 2 ^ j ≤ b → b < 2 ^ suc j
    → (2 ^ (j + 8 * length q) ≤ val (b ∷ q)) × (val (b ∷ q) < 2 ^ suc (j + 8 * length q))
unfolding val
first_bounds b q j h l g =
    let v : val q < 256 ^ length q = val_lt q h.1 in
    let e : 2 ^ (j + 8 * length q) ≡ 2 ^ j * 256 ^ length q = pow-add 2 j (8 * length q) ∙ ap (λ n. 2 ^ j * n) (pow_bytes (length q)) in
    let f : 2 ^ suc (j + 8 * length q) ≡ 2 ^ suc j * 256 ^ length q
    = ap (λ n. 2 ^ n) (let k : suc (j + 8 * length q) ≡ suc j + 8 * length q = omega arith in k) ∙ pow-add 2 (suc j) (8 * length q)
    ∙ ap (λ n. 2 ^ suc j * n) (pow_bytes (length q)) in
    (omega (arith, mul-le-mul_right (256 ^ length q) l), omega (arith, mul-le-mul_right (256 ^ length q) g))

-- how many bits stand behind the marker
stream_length : (b : ℕ) (q : List ℕ) → Bytes (b ∷ q) → b ≢ 0 → length (stream (b ∷ q)) + suc (count_leading_zeros 8 b) ≡ 8 * suc (length q)
stream_length b q h z =
    let t = leading_top 8 b (omega arith) h.0 in
    let r = first_bounds b q t.0 h t.2 t.3 in
    let e = stream_num b q h z in
    let n : length (stream (b ∷ q)) ≡ t.0 + 8 * length q
    = log_unique (val (b ∷ q)) (length (stream (b ∷ q))) (t.0 + 8 * length q) (omega (arith, marker_ge (stream (b ∷ q)))) (omega (arith, marker_lt (stream (b ∷ q)))) r.0 r.1 in
    let a : count_leading_zeros 8 b + suc t.0 ≡ 8 = t.1 in
    omega arith

-- the bits left-adjusted: the marker is pushed out of the word
shifted : (bs : List Bool) (v : ℕ) → length bs ≤ 63 → num (true ∷ bs) ≡ v → v * 2 ^ (64 - length bs) % 2 ^ 64 ≡ adjusted 64 bs
shifted bs v h e =
    let p : 2 ^ length bs * 2 ^ (64 - length bs) ≡ 2 ^ 64
    = sym (pow-add 2 (length bs) (64 - length bs)) ∙ ap (λ n. 2 ^ n) (let k : length bs + (64 - length bs) ≡ 64 = omega arith in k) in
    let q : num bs * 2 ^ (64 - length bs) < 2 ^ 64 = omega (arith, mul-lt-mul_of_pos_right (num_lt bs) (pow_pos (64 - length bs))) in
    let s : v * 2 ^ (64 - length bs) ≡ 2 ^ 64 + num bs * 2 ^ (64 - length bs)
    = ap (λ n. n * 2 ^ (64 - length bs)) (sym e ∙ num_true bs) ∙ add-mul (2 ^ length bs) (num bs) (2 ^ (64 - length bs)) ∙ ap (λ n. n + num bs * 2 ^ (64 - length bs)) p in
    ap (λ n. n % 2 ^ 64) s ∙ omega arith ∙ sym (adjusted_num 64 bs (omega arith))

sbits_word : (bs : List Bool) (n v w : ℕ) → length bs ≡ n → n ≤ 63 → num (true ∷ bs) ≡ v → (n ≡ 0 → w ≡ 0) → (0 < n → w ≡ v * 2 ^ (64 - n) % 2 ^ 64) → adjusted 64 bs ≡ w
sbits_word [] n v w e h ev w0 w1 = (unfold adjusted in sym (w0 (sym e)))
sbits_word (b ∷ bs) n v w e h ev w0 w1 =
    let k : length (b ∷ bs) ≤ 63 = omega arith in
    let p : 0 < n = omega arith in
    sym (w1 p ∙ ap (λ m. v * 2 ^ (64 - m) % 2 ^ 64) (sym e) ∙ shifted (b ∷ bs) v k ev)

-- what the code makes of the bytes: n bits, and the word w from the number v
pub sbits_is : (p : List ℕ) (k b n v w : ℕ) → Bytes p → length p ≡ k → 0 < k → k ≤ 8 → b ≡ get_or p 0 0 → b ≢ 0 → n ≡ 8 * k - 1 - count_leading_zeros 8 b → v ≡ val p
    → (n ≡ 0 → w ≡ 0) → (0 < n → w ≡ v * 2 ^ (64 - n) % 2 ^ 64) → IsSbits (stream p) n w
sbits_is [] k b n v w hp ek h0 h8 eb z en ev w0 w1 = absurd (omega arith)
sbits_is (a ∷ q) k b n v w hp ek h0 h8 eb z en ev w0 w1 =
    let na : a ≢ 0 = λ e. z (eb ∙ e) in
    let lz : count_leading_zeros 8 b ≡ count_leading_zeros 8 a = ap (count_leading_zeros 8) eb in
    let m = stream_length a q hp na in
    let e : length (stream (a ∷ q)) ≡ n = omega arith in
    record { many = e; few = omega arith; word = sbits_word (stream (a ∷ q)) n v w e (omega arith) (stream_num a q hp na ∙ sym ev) w0 w1 }

-- a byte that is not 0 has at most seven leading zeros
pub zeros_few : (b : ℕ) → b < 256 → b ≢ 0 → count_leading_zeros 8 b ≤ 7
zeros_few b h z = let t = leading_top 8 b (omega arith) h in let a : count_leading_zeros 8 b + suc t.0 ≡ 8 = t.1 in omega arith
