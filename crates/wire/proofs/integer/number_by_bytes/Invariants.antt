use Prim.Native.Nat.{◌^◌, ◌<◌}
use mathlib.Core.Path.{◌≡◌}
use lib.ListN.{take}
use Rattle.format.specs.Numbers.{val}
use Rattle.wire.proofs.integer.number_by_bytes.Given as goal

abbrev pub invariant-loop-b : goal.invariant-loop-b
invariant-loop-b l = (l.n < 256 ^ l.b-index) × (l.n ≡ val (take l.b-index l.b-items))
