-- No form of an integer or of a bit string is shorter than the normal one. Assumes nothing.
use mathlib.Core.Path.{◌≡◌, refl, ap}
use Prim.Native.Nat.{ℕ, suc, ◌+◌, ◌*◌, ◌^◌, ◌≤◌, ◌<◌}
use native.Mathlib.Omega.{arith}
use mathlib.Core.Bool.{Bool, true}
use mathlib.Core.List.{List, ◌∷◌, ◌++◌}
use lib.ListN.{length, length-append}
use lib.IntN.{ℤ, pos, negsuc}
use lib.Signed.{mag}
use lib.Pow.{pow_mono}
use Rattle.format.specs.Numbers.{Bytes, val, width, twos}
use Rattle.format.specs.Bits.{num, packed, bytes_for}
use Rattle.format.specs.Objects.{integer}
use Rattle.format.specs.Normal.{normal_size, linteger, normal_int, sbitstr, normal_bits}
use Rattle.format.proofs.Choices.{if_lt_yes, if_lt_no, split}
use Rattle.format.proofs.Digits.{be_length, val_lt, width_least, mag_signed}
use Rattle.format.proofs.BitLaws.{packed_length, bytes_enough}
use Rattle.format.proofs.Marker.{pow_bytes, marker_lt}
use Rattle.format.proofs.Sizes.{size_pos, size_mono, sized_length}

-- ---- integers
small_length : (n : ℕ) → n < 64 → length (normal_int (pos n)) ≡ 1
unfolding normal_int
small_length n h = rw (if_lt_yes n 64) refl

large_length : (z : ℤ) → length (linteger z) ≡ suc (width (2 * mag z))
unfolding linteger
large_length z = ap suc (be_length (width (2 * mag z)) (twos (width (2 * mag z)) z))

pub small_shortest : (n : ℕ) → n < 64 → length (normal_int (pos n)) ≤ 1
small_shortest n h = omega (arith, small_length n h)

int_pos : (n : ℕ) → 0 < length (normal_int (pos n))
int_pos n =
    split n 64 (λ l. omega (arith, small_length n l))
    (λ g. unfold normal_int in rw (if_lt_no n 64) (omega (arith, large_length (pos n))))

pub int_shortest : (k : ℕ) (z : ℤ) → 0 < k → 2 * mag z < 256 ^ k → length (normal_int z) ≤ suc k
int_shortest k (pos n) p h =
    split n 64 (λ l. omega (arith, small_length n l))
    (λ g. unfold normal_int in rw (if_lt_no n 64) (omega (arith, large_length (pos n), width_least (2 * n) k p h)))
int_shortest k (negsuc n) p h = unfold normal_int in omega (arith, large_length (negsuc n), width_least (2 * n) k p h)

-- what bytes make as an integer is below half of what that many can
pub integer_mag : (p : List ℕ) → Bytes p → 2 * mag (integer p) < 256 ^ length p
unfolding integer
integer_mag p h = mag_signed (length p) (val p) (val_lt p h)

pub integer_shortest : (p : List ℕ) → Bytes p → 0 < length p → length (normal_int (integer p)) ≤ suc (length p)
integer_shortest p h l = int_shortest (length p) (integer p) l (integer_mag p h)

-- ---- bit strings
pub marked_shortest : (bs : List Bool) (k : ℕ) → length bs < 64 → 0 < k → num (true ∷ bs) < 256 ^ k → length (normal_bits bs) ≤ suc k
unfolding normal_bits sbitstr
marked_shortest bs k l p h =
    let v = num (true ∷ bs) in
    rw (if_lt_yes (length bs) 64) (omega (arith, be_length (width v) v, width_least v k p h))

-- a marker before n bits makes at most one byte more
marker_fits : (bs : List Bool) → num (true ∷ bs) < 256 ^ suc (bytes_for (length bs))
marker_fits bs =
    let k = suc (bytes_for (length bs)) in
    let l : suc (length bs) ≤ 8 * k = omega (arith, bytes_enough (length bs)) in
    omega (arith, marker_lt bs, pow_mono l, pow_bytes k)

-- with a length of u bytes among m bytes of contents, behind a size of h bytes
pub counted_shortest : (bs : List Bool) (u m h : ℕ)
    → length (normal_int (pos (length bs))) ≤ u → u + bytes_for (length bs) ≤ m → length (normal_size m) ≤ h
    → length (normal_bits bs) ≤ suc (h + m)
unfolding normal_bits
counted_shortest bs u m h a b c =
    let n = normal_int (pos (length bs)) in
    let q = packed 8 (bytes_for (length bs)) bs in
    let l : length (n ++ q) ≤ m = omega (arith, length-append n q, packed_length 8 (bytes_for (length bs)) bs) in
    split (length bs) 64
    (λ k. omega (arith, int_pos (length bs), size_pos m, marked_shortest bs (suc (bytes_for (length bs))) k (omega arith) (marker_fits bs)))
    (λ g. rw (if_lt_no (length bs) 64) (omega (arith, sized_length (n ++ q), size_mono (length (n ++ q)) m l)))
