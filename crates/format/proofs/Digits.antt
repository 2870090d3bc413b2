-- The laws of numbers in bytes: what k bytes make and back, the fewest bytes, two's complement. Assumes nothing.
use mathlib.Core.Path.{◌≡◌, refl, ap, ap₂, ◌∙◌}
use Prim.Native.Nat.{ℕ, zero, suc, ◌+◌, ◌-◌, ◌*◌, ◌/◌, ◌%◌, ◌^◌, ◌≤◌, ◌<◌}
use native.Mathlib.Nat.{mul-le-mul_right, div-add-mod', mod-lt, pow-suc, mul-add-div_right, mul-add-mod_self_right, div-eq_of_lt, mod-eq_of_lt, add-zero, pow-le-pow_right, div-lt_iff_lt-mul}
use native.Mathlib.Numerals.{add-one}
use native.Mathlib.Omega.{arith}
use mathlib.Core.Logic.{◌≢◌}
use mathlib.Core.List.{List, [], ◌∷◌, ◌++◌}
use lib.ListN.{length, take, drop, get_or, length-append}
use lib.Seq.{take-suc}
use lib.IntN.{ℤ, pos, negsuc}
use lib.Signed.{mag}
use Rattle.format.specs.Numbers.{Bytes, val, be, width_f, width, signed, twos}
use Rattle.format.proofs.Choices.{if_lt_yes, if_lt_no, by_lt}

pub bytes_take : (n : ℕ) (s : List ℕ) → Bytes s → Bytes (take n s)
bytes_take zero s h = tt
bytes_take (suc n) [] h = tt
bytes_take (suc n) (b ∷ s) h = (h.0, bytes_take n s h.1)

pub bytes_drop : (n : ℕ) (s : List ℕ) → Bytes s → Bytes (drop n s)
bytes_drop zero s h = h
bytes_drop (suc n) [] h = tt
bytes_drop (suc n) (b ∷ s) h = bytes_drop n s h.1

pub bytes_append : (s t : List ℕ) → Bytes s → Bytes t → Bytes (s ++ t)
bytes_append [] t h g = g
bytes_append (b ∷ s) t h g = (h.0, bytes_append s t h.1 g)

pub p256 : (k : ℕ) → 0 < 256 ^ k
p256 zero = omega arith
p256 (suc k) = omega (arith, p256 k)

pub pow_le : {i j : ℕ} → i ≤ j → 256 ^ i ≤ 256 ^ j
pow_le {i} {j} h = pow-le-pow_right {n = 256} (omega arith) {i = i} {j = j} h

pub be_length : (k n : ℕ) → length (be k n) ≡ k
unfolding be
be_length zero n = refl
be_length (suc k) n = ap suc (be_length k (n % 256 ^ k))

pub be_val : (k n : ℕ) → n < 256 ^ k → val (be k n) ≡ n
unfolding be val
be_val zero n h = omega arith
be_val (suc k) n h = rw (be_length k (n % 256 ^ k), be_val k (n % 256 ^ k) (mod-lt n (p256 k))) (div-add-mod' n (256 ^ k))

pub be_bytes : (k n : ℕ) → n < 256 ^ k → Bytes (be k n)
unfolding be
be_bytes zero n h = tt
be_bytes (suc k) n h =
    ((div-lt_iff_lt-mul (p256 k)).1 (omega (arith, pow-suc 256 k)), be_bytes k (n % 256 ^ k) (mod-lt n (p256 k)))

pub val_lt : (s : List ℕ) → Bytes s → val s < 256 ^ length s
unfolding val
val_lt [] h = omega arith
val_lt (b ∷ s) h =
    let ih = val_lt s h.1 in
    omega (arith, pow-suc 256 (length s), mul-le-mul_right (256 ^ length s) h.0)

-- bytes are the digits of their value
pub be_of_val : (p : List ℕ) → Bytes p → be (length p) (val p) ≡ p
unfolding be val
be_of_val [] h = refl
be_of_val (b ∷ p) h =
    let l : val p < 256 ^ length p = val_lt p h.1 in
    ap₂ (λ x y. x ∷ be (length p) y)
    (mul-add-div_right (p256 (length p)) b (val p) ∙ ap (λ q. b + q) (div-eq_of_lt l) ∙ add-zero b)
    (mul-add-mod_self_right b (256 ^ length p) (val p) ∙ mod-eq_of_lt l)
    ∙ ap (λ t. b ∷ t) (be_of_val p h.1)

-- a first byte that is not 0 makes a number that is not 0
pub val_pos : (b : ℕ) (q : List ℕ) → b ≢ 0 → 0 < val (b ∷ q)
unfolding val
val_pos b q z =
    let h : 1 ≤ b = omega arith in
    omega (arith, p256 (length q), mul-le-mul_right (256 ^ length q) h)

-- one byte more at the end, for loops
pub val_snoc : (l : List ℕ) (b : ℕ) → val (l ++ (b ∷ [])) ≡ val l * 256 + b
unfolding val
val_snoc [] b = omega arith
val_snoc (a ∷ l) b =
    rw (length-append l (b ∷ []), val_snoc l b, add-one (length l), pow-suc 256 (length l)) (omega arith)

pub val_take_suc : (l : List ℕ) (i : ℕ) → i < length l → val (take (suc i) l) ≡ val (take i l) * 256 + get_or l i 0
val_take_suc l i h = rw (take-suc l i 0 h) (val_snoc (take i l) (get_or l i 0))

-- ---- the fewest bytes
w_fits : (f n : ℕ) → n ≤ f → n < 256 ^ width_f f n
unfolding width_f
w_fits zero n h = omega arith
w_fits (suc f) n h =
    by_lt (λ w. n < 256 ^ w) n 256 (λ l. l)
    (λ g. omega (arith, pow-suc 256 (width_f f (n / 256)), w_fits f (n / 256) (omega arith)))

w_least : (f n k : ℕ) → n < 256 ^ suc k → width_f f n ≤ suc k
unfolding width_f
w_least zero n k h = omega arith
w_least (suc f) n zero h = by_lt (λ w. w ≤ 1) n 256 (λ l. omega arith) (λ g. omega arith)
w_least (suc f) n (suc k) h =
    by_lt (λ w. w ≤ suc (suc k)) n 256 (λ l. omega arith)
    (λ g. omega (arith, w_least f (n / 256) k (omega (arith, pow-suc 256 (suc k)))))

w_pos : (f n : ℕ) → 0 < width_f f n
unfolding width_f
w_pos zero n = omega arith
w_pos (suc f) n = by_lt (λ w. 0 < w) n 256 (λ l. omega arith) (λ g. omega arith)

pub width_fits : (n : ℕ) → n < 256 ^ width n
unfolding width
width_fits n = w_fits n n (omega arith)

pub width_least : (n k : ℕ) → 0 < k → n < 256 ^ k → width n ≤ k
unfolding width
width_least n zero p h = omega arith
width_least n (suc k) p h = w_least n n k h

pub width_pos : (n : ℕ) → 0 < width n
unfolding width
width_pos n = w_pos n n

pub width_mono : (a b : ℕ) → a ≤ b → width a ≤ width b
width_mono a b h = width_least a (width b) (width_pos b) (omega (arith, width_fits b))

pub width_one : (n : ℕ) → n < 256 → width n ≡ 1
width_one n h = omega (arith, width_pos n, width_least n 1 (omega arith) h)

-- ---- two's complement
pub twos_lt : (k : ℕ) (z : ℤ) → twos k z < 256 ^ k
unfolding twos
twos_lt k (pos n) = mod-lt n (p256 k)
twos_lt k (negsuc n) = omega (arith, p256 k)

pub signed_twos : (k : ℕ) (z : ℤ) → 0 < k → 2 * mag z < 256 ^ k → signed k (twos k z) ≡ z
unfolding signed twos
signed_twos zero z p h = absurd (omega arith)
signed_twos (suc k) (pos n) p h =
    let e : n % 256 ^ suc k ≡ n = mod-eq_of_lt (omega arith) in
    rw (e, if_lt_yes) refl
signed_twos (suc k) (negsuc n) p h =
    let e : n % 256 ^ suc k ≡ n = mod-eq_of_lt (omega arith) in
    let q : 256 ^ suc k ≤ 2 * (256 ^ suc k - 1 - n) = omega (arith, pow-suc 256 k) in
    rw (e, if_lt_no) (ap negsuc (omega arith))

pub mag_signed : (k v : ℕ) → v < 256 ^ k → 2 * mag (signed k v) < 256 ^ k
unfolding signed
mag_signed k v h = by_lt (λ z. 2 * mag z < 256 ^ k) (2 * v) (256 ^ k) (λ l. l) (λ g. omega arith)

pub twos_signed : (k v : ℕ) → v < 256 ^ k → twos k (signed k v) ≡ v
unfolding signed twos
twos_signed k v h =
    by_lt (λ z. twos k z ≡ v) (2 * v) (256 ^ k) (λ l. mod-eq_of_lt h)
    (λ g. let e : (256 ^ k - 1 - v) % 256 ^ k ≡ 256 ^ k - 1 - v = mod-eq_of_lt (omega arith) in rw e (omega arith))

-- a list whose every element is below 256 is bytes
pub bytes_of : (s : List ℕ) → ((i : ℕ) → get_or s i 0 < 256) → Bytes s
bytes_of [] h = tt
bytes_of (b ∷ s) h = (h 0, bytes_of s (λ i. h (suc i)))
