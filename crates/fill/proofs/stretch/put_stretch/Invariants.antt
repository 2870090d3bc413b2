use Rattle.std.proofs.Common.{◌-◌, length}
use Rattle.fill.specs.Stretch.{Stretched}
use Rattle.fill.proofs.stretch.put_stretch.Given as goal

abbrev pub invariant-loop-upto : goal.invariant-loop-upto
invariant-loop-upto l = Stretched l.s l.i l.used l.initial.table l.table l.upto l.rows

abbrev pub decreases-loop-upto : goal.decreases-loop-upto
decreases-loop-upto l = length l.s - l.upto
