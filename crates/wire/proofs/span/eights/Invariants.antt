use Prim.Native.Nat.{◌-◌}
use mathlib.Core.Bool.{true}
use lib.ListN.{length}
use Rattle.wire.specs.Ranges.{Passed}
use Rattle.wire.proofs.span.eights.Given as goal

abbrev pub invariant-loop-e : goal.invariant-loop-e
invariant-loop-e g l = Passed (λ w. goal.F-post g l.passes w true) l.i l.e l.s

abbrev pub decreases-loop-e : goal.decreases-loop-e
decreases-loop-e g l = length l.s - l.e
