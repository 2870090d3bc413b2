use Rattle.fill.proofs.LowBytes.{Eighths}
use Rattle.fill.proofs.codes.put_low.Given as goal

abbrev pub invariant-loop-j : goal.invariant-loop-j
invariant-loop-j l = Eighths l.c l.n l.initial.table l.table l.j
