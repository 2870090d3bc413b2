-- The ones at the high end of a byte: how they are counted, and what they say of the byte. Assumes nothing.
use Prim.Native.Nat.{ℕ, ◌-◌, ◌≤◌, ◌<◌}
use native.Mathlib.Omega.{arith}
use mathlib.Core.Path.{◌≡◌, refl, sym}
use mathlib.Core.Bool.{Bool, true}
use lib.Count.{count_leading_zeros, leading_le}
use lib.Dec.{eqb}
use Rattle.format.specs.Choice.{both}
use Rattle.format.specs.Bits.{bits_of}
use Rattle.format.specs.Ones.{front_ones, high_ones}
use Rattle.format.proofs.Choices.{true_eq, below, passes}

-- ---- counted as the zeros of the complement
zeros : ℕ → Bool
zeros b = eqb (count_leading_zeros 8 (255 - b)) (high_ones b)

all_zeros : below zeros 256 ≡ true
unfolding below both zeros count_leading_zeros high_ones front_ones bits_of
all_zeros = refl

pub ones_zeros : (b : ℕ) → b < 256 → count_leading_zeros 8 (255 - b) ≡ high_ones b
unfolding zeros
ones_zeros b h = true_eq (count_leading_zeros 8 (255 - b)) (high_ones b) (passes zeros 256 all_zeros b h)

pub ones_most : (b : ℕ) → b < 256 → high_ones b ≤ 8
ones_most b h = omega (arith, ones_zeros b h, leading_le 8 (255 - b))

-- the zeros before a marker are the ones of the complement
pub zeros_ones : (b : ℕ) → b < 256 → high_ones (255 - b) ≡ count_leading_zeros 8 b
zeros_ones b h =
    let e : 255 - (255 - b) ≡ b = omega arith in
    rw e at (sym (ones_zeros (255 - b) (omega arith)))
