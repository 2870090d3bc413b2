-- The loop's invariant: the rows so far stand again, rebased. Assumes nothing.
use Rattle.std.proofs.Common.{refl, arith}
use Rattle.fill.proofs.Doubling.{rebasing_start, rebasing_step}
use Rattle.fill.proofs.copies.copy_some.Goals as goal

pub loop-i-preserved : goal.loop-i-preserved
loop-i-preserved c =
    let p = c.requires in
    rebasing_step _ _ _ _ c.loop-i.table c.loop-i.i _ _ _ p.0 p.1 (omega arith) c.loop-i.invariant refl refl c.shifted.ensures

pub loop-i-init : goal.loop-i-init
loop-i-init c = rebasing_start _ _ _ _
