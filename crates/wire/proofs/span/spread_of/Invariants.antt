use Prim.Native.Nat.{◌+◌}
use Rattle.wire.specs.Ranges.{Between}
use Rattle.wire.proofs.span.spread_of.Given as goal

abbrev pub invariant-loop-b : goal.invariant-loop-b
invariant-loop-b l = Between l.low l.high l.i (l.i + l.b-index) l.s
