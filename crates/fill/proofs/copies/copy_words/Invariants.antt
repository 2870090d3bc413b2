use Rattle.std.proofs.Common.{◌-◌}
use Rattle.fill.proofs.AgainLaws.{Repeated}
use Rattle.fill.proofs.copies.copy_words.Given as goal

abbrev pub invariant-loop-done : goal.invariant-loop-done
invariant-loop-done l = Repeated l.n l.k l.initial.table l.table l.done

abbrev pub decreases-loop-done : goal.decreases-loop-done
decreases-loop-done l = l.k - l.done
