use Rattle.fill.proofs.Doubling.{Taking}
use Rattle.fill.proofs.copies.copy_plain.Given as goal

abbrev pub invariant-loop-i : goal.invariant-loop-i
invariant-loop-i l = Taking l.to l.n l.initial.table l.table l.i
