use Rattle.std.proofs.Common.{◌+◌}
use Rattle.fill.specs.Stretch.{Stretched}
use Rattle.fill.proofs.stretch.put_range.Given as goal

abbrev pub invariant-loop-j : goal.invariant-loop-j
invariant-loop-j l = Stretched l.s l.i l.used l.initial.table l.table (l.i + l.j) l.j
