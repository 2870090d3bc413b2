-- The loop's invariant: the words so far stand again. Assumes nothing.
use Rattle.std.proofs.Common.{refl, arith}
use Rattle.fill.proofs.Doubling.{taking_start, taking_step}
use Rattle.fill.proofs.copies.copy_plain.Goals as goal

pub loop-i-preserved : goal.loop-i-preserved
loop-i-preserved c =
    let p = c.requires in
    taking_step _ _ _ c.loop-i.table c.loop-i.i _ p.0 p.1 (omega arith) c.loop-i.invariant refl

pub loop-i-init : goal.loop-i-init
loop-i-init c = taking_start _ _ _
