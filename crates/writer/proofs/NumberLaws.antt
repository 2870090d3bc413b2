-- Numbers byte by byte from the low end, and the forms of sizes and integers with their lengths. Assumes nothing.
use mathlib.Core.Path.{◌≡◌, refl, sym, ap, ap₂, ◌∙◌}
use mathlib.Core.List.{List, [], ◌∷◌, ◌++◌, append_assoc, append-nil}
use Prim.Native.Nat.{ℕ, zero, suc, ◌+◌, ◌-◌, ◌*◌, ◌/◌, ◌%◌, ◌^◌, ◌≤◌, ◌<◌}
use native.Mathlib.Nat.{pow-suc, mul_comm, div-div-eq-div-mul, div-one, mod-eq_of_lt, mod-lt}
use native.Mathlib.Omega.{arith}
use lib.ListN.{length, set, take, drop}
use lib.Pow as P
use mir.Syntax.{w32, w64}
use Rattle.std.specs.Int.{to_be_bytes, bytes_high_first, byte_at}
use lib.IntN.{pos}
use lib.Signed.{mag}
use Rattle.format.specs.Numbers.{be, width, signed, twos}
use Rattle.format.specs.Answers.{over}
use Rattle.format.specs.Lent.{over_at}
use Rattle.format.specs.Normal.{linteger, normal_int, normal_size}
use Rattle.format.proofs.Choices.{if_lt_yes, if_lt_no, if_eq_yes, if_eq_no, split, by_lt}
use Rattle.format.proofs.SignedLaws.{to_pos, to_signed}
use Rattle.format.proofs.Digits.{p256, pow_le, be_length, width_fits, width_least, width_one}
use Rattle.format.proofs.Marker.{pow_bytes}
use Rattle.format.proofs.Over.{at_last, at_front, set_at, lent_next}
use Rattle.format.proofs.Sizes.{size_zero, size_small, size_large}

-- ---- the low bytes of a number
-- 256 ^ k as a power of two, for the laws of these
low_low : (n k : ℕ) → n % 256 ^ suc k % 256 ≡ n % 256
low_low n k =
    let e : 256 ^ suc k ≡ 2 ^ (8 * k + 8) = omega (arith, pow-suc 256 k, P.pow-add 2 (8 * k) 8, pow_bytes k) in
    rw e (P.mod-mod-pow n (8 * k) 8)

low_high : (n k : ℕ) → n % 256 ^ suc k / 256 ≡ n / 256 % 256 ^ k
low_high n k =
    let e : 256 ^ suc k ≡ 2 ^ (8 * k + 8) = omega (arith, pow-suc 256 k, P.pow-add 2 (8 * k) 8, pow_bytes k) in
    rw (e, ← pow_bytes k) (P.field n (8 * k) 8)

be_snoc : (k n : ℕ) → n < 256 ^ suc k → be (suc k) n ≡ be k (n / 256) ++ (n % 256 ∷ [])
unfolding be
be_snoc zero n h = ap₂ ◌∷◌ (div-one n ∙ sym (mod-eq_of_lt {n = n} {m = 256} (omega arith))) refl
be_snoc (suc k) n h =
    let e : n / 256 ^ suc k ≡ n / 256 / 256 ^ k = ap (λ z. n / z) (pow-suc 256 k ∙ mul_comm (256 ^ k) 256) ∙ sym (div-div-eq-div-mul n 256 (256 ^ k)) in
    ap₂ ◌∷◌ e
    (be_snoc k (n % 256 ^ suc k) (mod-lt n (p256 (suc k)))
    ∙ ap₂ (λ x y. be k x ++ (y ∷ [])) (low_high n k) (low_low n k))

low_snoc : (k n : ℕ) → be (suc k) (n % 256 ^ suc k) ≡ be k (n / 256 % 256 ^ k) ++ (n % 256 ∷ [])
low_snoc k n = be_snoc k (n % 256 ^ suc k) (mod-lt n (p256 (suc k))) ∙ ap₂ (λ x y. be k x ++ (y ∷ [])) (low_high n k) (low_low n k)

-- the high bytes of a number, and then its low ones
pub low_parts : (a b n : ℕ) → be (a + b) (n % 256 ^ (a + b)) ≡ be a (n / 2 ^ (8 * b) % 256 ^ a) ++ be b (n % 256 ^ b)
unfolding be
low_parts a zero n =
    let z : a + 0 ≡ a = omega arith in
    let e : 8 * 0 ≡ 0 = omega arith in
    let d : n / 2 ^ (8 * 0) ≡ n = ap (λ k. n / 2 ^ k) e ∙ div-one n in
    ap (λ k. be k (n % 256 ^ k)) z ∙ ap (λ x. be a (x % 256 ^ a)) (sym d) ∙ sym (append-nil (be a (n / 2 ^ (8 * 0) % 256 ^ a)))
low_parts a (suc b) n =
    let z : a + suc b ≡ suc (a + b) = omega arith in
    let e : 8 + 8 * b ≡ 8 * suc b = omega arith in
    let d : n / 256 / 2 ^ (8 * b) ≡ n / 2 ^ (8 * suc b) = P.shr-shr n 8 (8 * b) ∙ ap (λ k. n / 2 ^ k) e in
    ap (λ k. be k (n % 256 ^ k)) z ∙ low_snoc (a + b) n ∙ ap (λ l. l ++ (n % 256 ∷ [])) (low_parts a b (n / 256))
    ∙ append_assoc (be a (n / 256 / 2 ^ (8 * b) % 256 ^ a)) (be b (n / 256 % 256 ^ b)) (n % 256 ∷ [])
    ∙ ap₂ (λ x l. be a (x % 256 ^ a) ++ l) d (sym (low_snoc b n))

-- the highest of some low bytes, and the others
low_head : (k n : ℕ) → be (suc k) (n % 256 ^ suc k) ≡ n / 2 ^ (8 * k) % 256 ∷ be k (n % 256 ^ k)
unfolding be
low_head k n =
    let z : 8 * suc k ≡ 8 + 8 * k = omega arith in
    let e : 256 ^ suc k ≡ 2 ^ (8 + 8 * k) = sym (pow_bytes (suc k)) ∙ ap (λ x. 2 ^ x) z in
    ap₂ (λ u v. n % u / v ∷ be k (n % u % v)) e (sym (pow_bytes k)) ∙ ap₂ (λ x y. x ∷ be k y) (P.field n 8 (8 * k)) (P.mod-mod-pow n 8 (8 * k))
    ∙ ap (λ v. n / 2 ^ (8 * k) % 256 ∷ be k (n % v)) (pow_bytes k)

-- one byte more, from the low end: the step of the loop that writes them
pub low_turn : (k n i x : ℕ) (t out : List ℕ) → 0 < i → i ≤ length out → over (be k (n % 256 ^ k)) t ≡ over (be i (x % 256 ^ i)) out →
    over (be k (n % 256 ^ k)) t ≡ over (be (i - 1) (x / 256 % 256 ^ (i - 1))) (set out (i - 1) (x % 256))
unfolding over_at
low_turn k n zero x t out p l e = absurd (omega arith)
low_turn k n (suc i) x t out p l e =
    let q : suc i - 1 ≡ i = omega arith in
    let y = be i (x / 256 % 256 ^ i) in
    let z : 0 + length y ≡ i = omega (arith, be_length i (x / 256 % 256 ^ i)) in
    rw q (e ∙ ap (λ b. over b out) (low_snoc i x) ∙ at_last 0 (x % 256) y out (omega arith) ∙ ap (λ j. over y (set out j (x % 256))) z)

-- as the library has them
pub low_bytes : (k n : ℕ) → bytes_high_first k n ≡ be k (n % 256 ^ k)
unfolding be
low_bytes zero n = refl
low_bytes (suc k) n = ap₂ ◌∷◌ (byte_is k n) (low_bytes k n) ∙ sym (low_head k n)
  where
    byte_is : (k n : ℕ) → byte_at k n ≡ n / 2 ^ (8 * k) % 256
    byte_is zero n = let e : 8 * 0 ≡ 0 = omega arith in sym (ap (λ z. n / 2 ^ z % 256) e ∙ ap (λ z. z % 256) (div-one n))
    byte_is (suc k) n = ap (λ z. n / z % 256) (sym (pow_bytes (suc k)))

-- the first four of k low bytes, as the library has them, and the others behind them
pub four_put : (n m : ℕ) (zs ys t : List ℕ) → m ≡ n % 2 ^ 32 → zs ≡ to_be_bytes w32 m → ys ≡ zs → ys ++ drop 4 t ≡ over (be 4 (n % 256 ^ 4)) t
unfolding over
four_put n m zs ys t q z e =
    let y : ys ≡ be 4 (n % 256 ^ 4) =
    e ∙ z ∙ low_bytes 4 m ∙ ap (λ x. be 4 (x % 256 ^ 4)) q ∙ ap (be 4) (mod-eq_of_lt (mod-lt n (p256 4))) in
    ap₂ (λ a i. a ++ drop i t) y (sym (be_length 4 (n % 256 ^ 4)))

pub word_put : (n : ℕ) (zs ys t : List ℕ) → n < 2 ^ 64 → zs ≡ to_be_bytes w64 n → ys ≡ zs → ys ++ drop 8 t ≡ over (be 8 n) t
unfolding over
word_put n zs ys t h z e =
    let y : ys ≡ be 8 n = e ∙ z ∙ low_bytes 8 n ∙ ap (be 8) (mod-eq_of_lt {n = n} {m = 256 ^ 8} (omega arith)) in
    ap₂ (λ a i. a ++ drop i t) y (sym (be_length 8 n))

-- ---- the front of an output
pub byte_front : (b : ℕ) (t : List ℕ) → 0 < length t → set t 0 b ≡ over (b ∷ []) t
byte_front b t h = set_at 0 b t h ∙ at_front (b ∷ []) t

pub two_front : (ys t : List ℕ) (a b : ℕ) → ys ≡ a ∷ b ∷ [] → ys ++ drop 2 t ≡ over (a ∷ b ∷ []) t
unfolding over
two_front ys t a b e = ap (λ z. z ++ drop 2 t) e

-- a byte, and the bytes behind it in the part that was lent for them
pub byte_then : (b : ℕ) (m t ys : List ℕ) → 0 < length t → ys ≡ over m (take (length (set t 0 b) - 1) (drop 1 (set t 0 b))) →
    take 1 (set t 0 b) ++ (ys ++ drop (length (set t 0 b) - 1) (drop 1 (set t 0 b))) ≡ over (b ∷ m) t
byte_then b m t ys h e = lent_next (b ∷ []) m t (set t 0 b) ys 1 refl (byte_front b t h) e

-- ---- the fewest bytes, by the highest bit
pub width_log : (n v : ℕ) → 2 ^ n ≤ v → v < 2 ^ suc n → width v ≡ 1 + n / 8
width_log n v g l =
    let q : ℕ = n / 8 in
    let up : v < 256 ^ suc q = rw (← pow_bytes (suc q)) (omega (arith, P.pow_mono {i = suc n} {j = 8 * suc q} (omega arith))) in
    let low : 256 ^ q ≤ v = rw (← pow_bytes q) (omega (arith, P.pow_mono {i = 8 * q} {j = n} (omega arith))) in
    let a : width v ≤ suc q = width_least v (suc q) (omega arith) up in
    let b : q < width v = split q (width v) (λ h. h) (λ h. absurd (omega (arith, width_fits v, pow_le {i = width v} {j = q} h))) in
    omega arith

-- as the code finds it: below 256 at once, and else by the highest bit
pub width_below : (n : ℕ) → n < 256 → 1 ≡ width n
width_below n h = sym (width_one n h)

pub width_found : (n r : ℕ) → 256 ≤ n → 2 ^ r ≤ n → n < 2 * 2 ^ r → 1 + r / 8 ≡ width n
width_found n r f g l = sym (width_log r n g (omega (arith, pow-suc 2 r)))

pub width_most : (n : ℕ) → n < 2 ^ 64 → width n ≤ 8
width_most n h = width_least n 8 (omega arith) (omega arith)

-- ---- the forms of a size
pub size_0 : (n : ℕ) → n ≡ 0 → normal_size n ≡ 0x81 ∷ 0 ∷ []
unfolding normal_size
size_0 n e = rw (if_eq_yes n 0 _ _ e)

pub size_1 : (n : ℕ) → 0 < n → n < 128 → normal_size n ≡ n ∷ []
unfolding normal_size
size_1 n h l = rw (if_eq_no n 0 _ _ (λ z. omega arith), if_lt_yes n 128 _ _ l)

pub size_128 : (n : ℕ) → n ≡ 128 → normal_size n ≡ 0 ∷ []
unfolding normal_size
size_128 n e = rw (if_eq_no n 0 _ _ (λ z. omega arith), if_lt_no n 128 _ _ (omega arith), if_eq_yes n 128 _ _ e)

size_long : (n : ℕ) → 128 < n → normal_size n ≡ (0x80 + width n) ∷ be (width n) n
unfolding normal_size
size_long n l = rw (if_eq_no n 0 _ _ (λ z. omega arith), if_lt_no n 128 _ _ (omega arith), if_eq_no n 128 _ _ (λ z. omega arith))

-- a size below 2 ^ 24 takes at most four bytes
pub size_most : (n : ℕ) → n < 16777216 → length (normal_size n) ≤ 4
size_most zero h = omega (arith, size_zero)
size_most (suc n) h =
    split (suc n) 129 (λ l. omega (arith, size_small (suc n) (λ z. omega arith) (omega arith)))
    (λ g. omega (arith, size_large (suc n) (omega arith), width_least (suc n) 3 (omega arith) (omega arith)))

-- ---- the forms of an integer, by its eight bytes
pub pos_is : (v : ℕ) → v < 2 ^ 63 → signed 8 v ≡ pos v
pos_is v h = sym (to_signed v h) ∙ to_pos v h

pub int_small : (v : ℕ) → v < 64 → normal_int (signed 8 v) ≡ (0x80 + v) ∷ []
unfolding normal_int
int_small v l = rw (pos_is v (omega arith)) (if_lt_yes v 64 _ _ l)

int_large : (v : ℕ) → 64 ≤ v → normal_int (signed 8 v) ≡ linteger (signed 8 v)
unfolding normal_int signed
int_large v g = by_lt (λ z. normal_int z ≡ linteger z) (2 * v) (256 ^ 8) (λ l. if_lt_no v 64 _ _ g) (λ l. refl)

-- the low bytes of a number's eight are its own two's complement
complement : (m q v : ℕ) → 0 < m → v < q * m → m - 1 - (q * m - 1 - v) % m ≡ v % m
complement m q v p h =
    let a : v / m * m + v % m ≡ v = native.Mathlib.Nat.div-add-mod' v m in
    let l : v % m < m = mod-lt v p in
    let b : v / m < q = (native.Mathlib.Nat.div-lt_iff_lt-mul p).1 h in
    let e : (q - 1 - v / m) * m + (v / m + 1) * m ≡ q * m = sym (native.Mathlib.Nat.add-mul (q - 1 - v / m) (v / m + 1) m) ∙ ap (λ z. z * m) (omega arith) in
    let f : (v / m + 1) * m ≡ v / m * m + m = native.Mathlib.Nat.add-mul (v / m) 1 m ∙ omega arith in
    let g : q * m - 1 - v ≡ (q - 1 - v / m) * m + (m - 1 - v % m) = omega arith in
    let r : (q * m - 1 - v) % m ≡ m - 1 - v % m = ap (λ z. z % m) g ∙ native.Mathlib.Nat.mul-add-mod_self_right (q - 1 - v / m) m (m - 1 - v % m) ∙ mod-eq_of_lt (omega arith) in
    omega arith

twos_low : (k v : ℕ) → k ≤ 8 → v < 256 ^ 8 → twos k (signed 8 v) ≡ v % 256 ^ k
unfolding signed twos
twos_low k v h l =
    let e : 256 ^ 8 ≡ 256 ^ (8 - k) * 256 ^ k = (let q : 8 - k + k ≡ 8 = omega arith in ap (λ n. 256 ^ n) (sym q) ∙ P.pow-add 256 (8 - k) k) in
    by_lt (λ z. twos k z ≡ v % 256 ^ k) (2 * v) (256 ^ 8) (λ t. refl)
    (λ t. ap (λ z. 256 ^ k - 1 - (z - 1 - v) % 256 ^ k) e ∙ complement (256 ^ k) (256 ^ (8 - k)) v (p256 k) (rw e at l))

-- as the code writes it: a type-byte and the low bytes of the eight
pub int_bytes : (v k : ℕ) → 64 ≤ v → v < 256 ^ 8 → k ≡ width (2 * mag (signed 8 v)) → k ≤ 8 →
    normal_int (signed 8 v) ≡ (0xe0 + k % 8) ∷ be k (v % 256 ^ k)
unfolding linteger
int_bytes v k g l e h = int_large v g ∙ rw (← e, twos_low k v h l) refl

pub int_length_small : (v : ℕ) → v < 64 → length (normal_int (signed 8 v)) ≡ 1
int_length_small v l = ap length (int_small v l)

pub int_length_large : (v k : ℕ) → 64 ≤ v → v < 256 ^ 8 → k ≡ width (2 * mag (signed 8 v)) → k ≤ 8 → length (normal_int (signed 8 v)) ≡ 1 + k
int_length_large v k g l e h = ap length (int_bytes v k g l e h) ∙ omega (arith, be_length k (v % 256 ^ k))

pub size_bytes : (n k : ℕ) → 128 < n → k ≡ width n → normal_size n ≡ (0x80 + k) ∷ be k (n % 256 ^ k)
size_bytes n k g e = size_long n g ∙ rw e (rw (mod-eq_of_lt (width_fits n)) refl)

pub size_length_0 : (n : ℕ) → n ≡ 0 → length (normal_size n) ≡ 2
size_length_0 n e = rw e size_zero

pub ruleset sizes = (size_length_0, size_small, size_large, width_below, width_found, width_most, size_0, size_1, size_128, size_bytes, byte_front, two_front)

pub ruleset integers = (int_small, int_bytes, int_length_small, int_length_large, byte_front)
