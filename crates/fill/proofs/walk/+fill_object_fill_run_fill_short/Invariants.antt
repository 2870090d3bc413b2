use Rattle.std.proofs.Common.{◌+◌, ◌-◌, ◌*◌, length}
use Rattle.fill.proofs.WalkLaws.{WalkInv}
use Rattle.fill.proofs.walk.+fill_object_fill_run_fill_short.Given as goal

abbrev pub invariant-fill_run-loop-i : goal.invariant-fill_run-loop-i
invariant-fill_run-loop-i l = WalkInv l.depth l.s l.place.base l.place.gap l.initial.table l.table l.i l.done.rows l.done.count l.done.words

abbrev pub decreases-fill_run-loop-i : goal.decreases-fill_run-loop-i
decreases-fill_run-loop-i l = length l.s - l.i

abbrev pub decreases-fill_object : goal.decreases-fill_object
decreases-fill_object l = 2 * length l.s.now + 1

abbrev pub decreases-fill_run : goal.decreases-fill_run
decreases-fill_run l = 2 * length l.s.now

abbrev pub decreases-fill_short : goal.decreases-fill_short
decreases-fill_short l = 2 * length l.c.now + 1
