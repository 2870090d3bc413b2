use Prim.Native.Nat.{◌-◌}
use Rattle.explain.specs.Told.{around_of}
use Rattle.explain.proofs.Descending.{Descending}
use Rattle.explain.proofs.descent.descend.Given as goal

abbrev pub invariant-loop-at : goal.invariant-loop-at
invariant-loop-at l = Descending l.m l.place l.at l.end (around_of l.trail)

abbrev pub decreases-loop-at : goal.decreases-loop-at
decreases-loop-at l = l.end - l.at
