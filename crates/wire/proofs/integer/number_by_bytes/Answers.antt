-- `integer::number_by_bytes` meets its contract. Assumes nothing.
use Prim.Native.Nat.{ℕ, ◌+◌, ◌*◌, ◌≤◌, ◌<◌, ◌^◌}
use mathlib.Core.Path.{◌≡◌, refl}
use mathlib.Core.List.{List}
use native.Mathlib.Nat.{pow-suc}
use native.Mathlib.Numerals.{add-one}
use native.Mathlib.Omega.{arith}
use lib.ListN.{length, take, get_or, length-take}
use Rattle.format.specs.Numbers.{val}
use Rattle.format.proofs.Digits.{pow_le, val_take_suc}
use Rattle.wire.proofs.integer.number_by_bytes.Goals as goal

-- one byte more of those in p
step : (p : List ℕ) (i n b : ℕ) → i < length p → n < 256 ^ i → n ≡ val (take i p) → b ≡ get_or p i 0 → b < 256
    → (n * 256 + b < 256 ^ (i + 1)) × (n * 256 + b ≡ val (take (i + 1) p))
step p i n b h hn en eb hb = rw add-one (omega (arith, pow-suc 256 i), rw (val_take_suc p i h) (omega arith))

-- before the last of at most eight
few : (s : List ℕ) (i k : ℕ) → i < length (take k s) → k ≤ 8 → i ≤ 7
few s i k h l = omega (arith, length-take k s)

pub loop-b-init : goal.loop-b-init
loop-b-init c = (omega arith, unfold val in refl)

pub overflow_mul-n : goal.overflow_mul-n
overflow_mul-n c = omega (arith, pow_le {i = c.loop-b.b-index} {j = 7} (few c.args.s.now _ c.args.k c.loop-b-test.true (omega arith)))

pub loop-b-preserved : goal.loop-b-preserved
loop-b-preserved c = step _ c.loop-b.b-index c.loop-b.n c.from.result c.loop-b-test.true c.loop-b.invariant.0 c.loop-b.invariant.1 c.from.ensures (omega arith)
