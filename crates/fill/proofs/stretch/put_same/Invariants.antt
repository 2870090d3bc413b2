use Rattle.fill.specs.Stretch.{Stretched}
use Rattle.fill.proofs.stretch.put_same.Given as goal

abbrev pub invariant-loop-rows : goal.invariant-loop-rows
invariant-loop-rows l = Stretched l.s l.i l.used l.initial.table l.table l.upto l.rows
