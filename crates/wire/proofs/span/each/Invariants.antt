use Rattle.wire.specs.Ranges.{Ranged}
use Rattle.wire.proofs.span.each.Given as goal

abbrev pub invariant-loop-e : goal.invariant-loop-e
invariant-loop-e l = Ranged l.lo l.hi l.i l.e l.s
