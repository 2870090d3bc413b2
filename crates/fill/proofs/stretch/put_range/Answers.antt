-- The loop's invariant: the rows of the bytes so far stand behind what was there. Assumes nothing.
use Rattle.std.proofs.Common.{arith}
use Rattle.fill.proofs.Stretches.{range_start, ranged_more}
use Rattle.fill.proofs.stretch.put_range.Goals as goal

pub loop-j-preserved : goal.loop-j-preserved
loop-j-preserved c =
    ranged_more c.loop-j.invariant (omega arith) (omega arith) _ _ _ c.requires.2 (omega arith) (omega arith) c.put_at.ensures

pub loop-j-init : goal.loop-j-init
loop-j-init c = let p = c.requires in range_start _ _ _ _ p.0 p.1
