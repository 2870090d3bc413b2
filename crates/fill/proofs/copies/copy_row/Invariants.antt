use Rattle.fill.proofs.RowFill.{Filling}
use Rattle.fill.proofs.copies.copy_row.Given as goal

abbrev pub invariant-loop-j : goal.invariant-loop-j
invariant-loop-j l = Filling l.k l.kind l.a l.b l.initial.table l.table l.j
