use Prim.Native.Nat.{min}
use mathlib.Core.Path.{◌≡◌}
use lib.ListN.{take}
use Rattle.format.specs.Numbers.{val}
use Rattle.wire.proofs.size.long_size.Given as goal

abbrev pub invariant-loop-b : goal.invariant-loop-b
invariant-loop-b l = l.n ≡ min (val (take l.b-index l.b-items)) 131072
