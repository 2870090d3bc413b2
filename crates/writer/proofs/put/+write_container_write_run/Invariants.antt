use Prim.Native.Nat.{◌+◌, ◌-◌, ◌*◌}
use Rattle.writer.proofs.WriteLaws.{Going}
use Rattle.writer.proofs.put.+write_container_write_run.Given as goal

abbrev pub decreases-write_container : goal.decreases-write_container
decreases-write_container l = 2 * l.depth

abbrev pub decreases-write_run : goal.decreases-write_run
decreases-write_run l = 2 * l.depth + 1

abbrev pub invariant-write_run-loop-p : goal.invariant-write_run-loop-p
invariant-write_run-loop-p l = Going l.table.words.now l.from l.to l.depth l.initial.out l.out l.p l.n

abbrev pub decreases-write_run-loop-p : goal.decreases-write_run-loop-p
decreases-write_run-loop-p l = l.to - l.p
