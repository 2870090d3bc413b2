use Rattle.std.proofs.Common.{◌+◌, ◌-◌, ◌*◌, length}
use Rattle.scan.proofs.Turns.{Inv}
use Rattle.scan.proofs.+scan_object_scan_run_scan_short.Given as goal

-- The bytes left fall from call to call.
abbrev pub decreases-scan_object : goal.decreases-scan_object
decreases-scan_object l = 2 * length l.s.now + 1

abbrev pub decreases-scan_run : goal.decreases-scan_run
decreases-scan_run l = 2 * length l.s.now

abbrev pub decreases-scan_short : goal.decreases-scan_short
decreases-scan_short l = 2 * length l.c.now + 1

-- The bytes up to i say items which come to the sum.
abbrev pub invariant-scan_run-loop-i : goal.invariant-scan_run-loop-i
invariant-scan_run-loop-i l = Inv l.depth l.s l.i l.sum

abbrev pub decreases-scan_run-loop-i : goal.decreases-scan_run-loop-i
decreases-scan_run-loop-i l = length l.s - l.i
