use Rattle.fill.proofs.Doubling.{Rebasing}
use Rattle.fill.proofs.copies.copy_some.Given as goal

abbrev pub invariant-loop-i : goal.invariant-loop-i
invariant-loop-i l = Rebasing l.words l.to l.rows l.initial.table l.table l.i
