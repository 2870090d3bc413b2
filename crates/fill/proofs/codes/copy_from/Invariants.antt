use Rattle.std.proofs.Common.{◌-◌}
use Rattle.fill.proofs.Letters.{Copied}
use Rattle.fill.proofs.codes.copy_from.Given as goal

abbrev pub invariant-loop-to : goal.invariant-loop-to
invariant-loop-to l = Copied l.n l.m l.k l.from l.initial.table l.table l.to

abbrev pub decreases-loop-to : goal.decreases-loop-to
decreases-loop-to l = l.end - l.to
