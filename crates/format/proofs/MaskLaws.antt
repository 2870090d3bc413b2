-- A number and a mask of equal bytes, byte by byte. Assumes nothing.
use mathlib.Core.Path.{◌≡◌, refl, sym, ap, ap₂, ◌∙◌}
use Prim.Native.Nat.{ℕ, zero, suc, ◌+◌, ◌-◌, ◌*◌, ◌^◌, ◌≤◌, ◌<◌}
use native.Mathlib.Nat.{pow-suc, mul-le-mul_right}
use native.Mathlib.Omega.{arith}
use mathlib.Core.List.{List, [], ◌∷◌}
use lib.ListN.{length}
use lib.Dec.{ltb, eqb}
use lib.Bits.{bit_and, and_block, and_shifted, and_comm, and_self, and_zero_r}
use Rattle.format.specs.Choice.{both}
use Rattle.format.specs.Numbers.{Bytes, val}
use Rattle.format.proofs.Choices.{split, lt_true, lt_false, eq_false}
use Rattle.format.proofs.Digits.{p256, val_lt}
use Rattle.format.proofs.Marker.{pow_bytes}

-- the number of k bytes that are all m
unfoldable pub mask : ℕ → ℕ → ℕ
mask m zero = 0
mask m (suc k) = m * 256 ^ k + mask m k

-- what m leaves of each byte
unfoldable pub masked : ℕ → List ℕ → List ℕ
masked m [] = []
masked m (b ∷ s) = bit_and b m ∷ masked m s

masked_length : (m : ℕ) (s : List ℕ) → length (masked m s) ≡ length s
unfolding masked
masked_length m [] = refl
masked_length m (b ∷ s) = ap suc (masked_length m s)

mask_lt : (m k : ℕ) → m < 256 → mask m k < 256 ^ k
unfolding mask
mask_lt m zero h = omega arith
mask_lt m (suc k) h = omega (arith, mask_lt m k h, pow-suc 256 k, mul-le-mul_right (256 ^ k) h)

and_bytes : (k a b r s : ℕ) → r < 256 ^ k → s < 256 ^ k → bit_and (a * 256 ^ k + r) (b * 256 ^ k + s) ≡ bit_and a b * 256 ^ k + bit_and r s
and_bytes k a b r s h l = let e = pow_bytes k in rw (← e) (and_block (8 * k) a b r s (rw e h) (rw e l))

pub and_mask_bytes : (m : ℕ) (s : List ℕ) → m < 256 → Bytes s → bit_and (val s) (mask m (length s)) ≡ val (masked m s)
unfolding mask masked val
and_mask_bytes m [] h b = refl
and_mask_bytes m (x ∷ s) h b =
    and_bytes (length s) x m (val s) (mask m (length s)) (val_lt s b.1) (mask_lt m (length s) h)
    ∙ ap₂ (λ n v. bit_and x m * 256 ^ n + v) (sym (masked_length m s)) (and_mask_bytes m s h b.1)

-- ---- the high bits
high_bit : (q : ℕ) → q < 256 → (q < 128 → bit_and q 128 ≡ 0) × (128 ≤ q → bit_and q 128 ≡ 128)
high_bit q h = (
  λ l. and_comm q 128 ∙ and_shifted 1 7 q l,
  λ g.
      let r : ℕ = q - 128 in
      let e : q ≡ 1 * 2 ^ 7 + r = omega arith in
      ap (λ n. bit_and n 128) e ∙ and_block 7 1 1 r 0 (omega arith) (omega arith) ∙ ap₂ (λ m n. m * 2 ^ 7 + n) (and_self 1) (and_zero_r r),
)

-- none is left of bytes that are all below 128
pub none_high : (b : ℕ) (s : List ℕ) → b < 256 → eqb (val (masked 128 (b ∷ s))) 0 ≡ both (ltb b 128) (eqb (val (masked 128 s)) 0)
unfolding masked val both
none_high b s h =
    let p = p256 (length (masked 128 s)) in
    split b 128
    (λ l.
    let u : bit_and b 128 ≡ 0 = (high_bit b h).0 l in
    let e : 0 * 256 ^ length (masked 128 s) + val (masked 128 s) ≡ val (masked 128 s) = omega arith in
    rw (u, lt_true b 128 l) (ap (λ n. eqb n 0) e))
    (λ g.
    let u : bit_and b 128 ≡ 128 = (high_bit b h).1 g in
    rw (u, lt_false b 128 g) (eq_false (128 * 256 ^ length (masked 128 s) + val (masked 128 s)) 0 (λ z. omega arith)))
