use Rattle.std.proofs.Common.{◌-◌}
use Rattle.fill.proofs.Doubling.{Doubled}
use Rattle.fill.proofs.copies.copy_rebased.Given as goal

abbrev pub invariant-loop-done : goal.invariant-loop-done
invariant-loop-done l = Doubled l.words l.rows l.k l.initial.table l.table l.done

abbrev pub decreases-loop-done : goal.decreases-loop-done
decreases-loop-done l = l.k - l.done
