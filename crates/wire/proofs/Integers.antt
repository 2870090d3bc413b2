-- The whole number that k bytes stand for in two's complement, from the high bytes of a word. Assumes nothing.
use Prim.Native.Nat.{ℕ, ◌-◌, ◌*◌, ◌/◌, ◌%◌, ◌^◌, ◌≤◌, ◌<◌}
use mathlib.Core.Path.{◌≡◌, refl, ap, ◌∙◌}
use mathlib.Core.List.{List}
use native.Mathlib.Omega.{arith}
use lib.ListN.{length, take}
use lib.Seq.{length-take-le}
use lib.IntN.{ℤ, negsuc}
use lib.Signed.{mag, shr_z, mag_shr}
use mir.Syntax.{w64}
use mir.Val.{of_z, to_z}
use Rattle.format.specs.Numbers.{val, signed}
use Rattle.format.specs.Objects.{integer}
use Rattle.format.proofs.Choices.{if_lt_yes, if_lt_no, split}
use Rattle.format.proofs.SignedLaws.{handed}
use Rattle.wire.proofs.WordLaws.{each_of_eight}

pub integer_take : (s : List ℕ) (k : ℕ) → k ≤ length s → integer (take k s) ≡ signed k (val (take k s))
unfolding integer
integer_take s k h = rw (length-take-le k s h) refl

-- the high bytes of a word: the sign that its highest bit tells, and what a negative one is when the low bytes are shifted out
module _ (w k : ℕ) (h : w < 2 ^ 64) (p : 0 < k) (l : k ≤ 8) where
  high_plus : w < 2 ^ 63 → 2 * (w / 2 ^ (64 - 8 * k)) < 256 ^ k
  high_plus =
      each_of_eight (λ j. w < 2 ^ 63 → 2 * (w / 2 ^ (64 - 8 * j)) < 256 ^ j)
      (λ g. omega arith, (λ g. omega arith, (λ g. omega arith, (λ g. omega arith, (λ g. omega arith, (λ g. omega arith, (λ g. omega arith, (λ g. omega arith, tt)))))))) k p l

  high_minus : 2 ^ 63 ≤ w → 256 ^ k ≤ 2 * (w / 2 ^ (64 - 8 * k))
  high_minus =
      each_of_eight (λ j. 2 ^ 63 ≤ w → 256 ^ j ≤ 2 * (w / 2 ^ (64 - 8 * j)))
      (λ g. omega arith, (λ g. omega arith, (λ g. omega arith, (λ g. omega arith, (λ g. omega arith, (λ g. omega arith, (λ g. omega arith, (λ g. omega arith, tt)))))))) k p l

  high_value : (256 ^ 8 - 1 - w) / 2 ^ (64 - 8 * k) ≡ 256 ^ k - 1 - w / 2 ^ (64 - 8 * k)
  high_value =
      each_of_eight (λ j. (256 ^ 8 - 1 - w) / 2 ^ (64 - 8 * j) ≡ 256 ^ j - 1 - w / 2 ^ (64 - 8 * j))
      (omega arith, (omega arith, (omega arith, (omega arith, (omega arith, (omega arith, (omega arith, (omega arith, tt)))))))) k p l

shr_signed : (w k : ℕ) → w < 2 ^ 64 → 0 < k → k ≤ 8 → shr_z (signed 8 w) (2 ^ (64 - 8 * k)) ≡ signed k (w / 2 ^ (64 - 8 * k))
unfolding signed
shr_signed w k hw p l =
    split w (2 ^ 63)
    (λ g.
    let a : 2 * w < 256 ^ 8 = omega arith in
    rw (if_lt_yes (2 * w) (256 ^ 8), if_lt_yes (2 * (w / 2 ^ (64 - 8 * k))) (256 ^ k) _ _ (high_plus w k hw p l g)) refl)
    (λ g.
    let a : 256 ^ 8 ≤ 2 * w = omega arith in
    rw (if_lt_no (2 * w) (256 ^ 8), if_lt_no (2 * (w / 2 ^ (64 - 8 * k))) (256 ^ k) _ _ (high_minus w k hw p l g)) (ap negsuc (high_value w k hw p l)))

-- the same as the code shifts a number that it was handed
pub shifted : (w k : ℕ) (z : ℤ) → mag z < 2 ^ 63 → w < 2 ^ 64 → 0 < k → k ≤ 8 → z ≡ signed 8 w
    → to_z w64 (of_z w64 (shr_z (to_z w64 (of_z w64 z)) (2 ^ (64 - 8 * k)))) ≡ signed k (w / 2 ^ (64 - 8 * k))
shifted w k z f hw p l e =
    let m = 2 ^ (64 - 8 * k) in
    ap (λ y. to_z w64 (of_z w64 (shr_z y m))) (handed z z f refl)
    ∙ handed (signed k (w / m)) (shr_z z m) (omega (arith, mag_shr z m)) (ap (λ y. shr_z y m) e ∙ shr_signed w k hw p l)

-- a number of k bytes in the high bytes of a word
pub raised : (n k : ℕ) → n < 256 ^ k → 0 < k → k ≤ 8 → n * 2 ^ (64 - 8 * k) % 2 ^ 64 / 2 ^ (64 - 8 * k) ≡ n
raised n k hn p l =
    each_of_eight (λ j. n < 256 ^ j → n * 2 ^ (64 - 8 * j) % 2 ^ 64 / 2 ^ (64 - 8 * j) ≡ n)
    (λ h. omega arith, (λ h. omega arith, (λ h. omega arith, (λ h. omega arith, (λ h. omega arith, (λ h. omega arith, (λ h. omega arith, (λ h. omega arith, tt)))))))) k p l hn
