-- The loop's invariant: so many copies are there. Assumes nothing.
use Rattle.std.proofs.Common.{length, arith}
use Rattle.fill.proofs.Doubling.{doubled_start, RoundRoom, round_room, doubled_step}
use Rattle.fill.proofs.copies.copy_rebased.Goals as goal
use Rattle.fill.proofs.copies.copy_rebased.Goals.{After-min-more}

-- what a round asks for
round_at : (c : After-min-more) → RoundRoom c.args.rows c.loop-done.done c.min-more.result (length c.args.table.now)
round_at c = round_room _ c.args.k _ _ _ c.requires.1 (omega arith) (omega arith)

pub copy_some-requires : goal.copy_some-requires
copy_some-requires c =
    let l = c.loop-done.invariant.long in
    let r = round_at (goal.at.copy_some-requires c).After-min-more in
    (r.0, omega arith)

pub loop-done-preserved : goal.loop-done-preserved
loop-done-preserved c =
    doubled_step _ _ _ _ _ _ _ _ c.requires.1 (omega arith) (omega arith) (omega arith) c.loop-done.invariant c.copy_some.ensures

pub loop-done-init : goal.loop-done-init
loop-done-init c = doubled_start _ _ _ _ c.requires.0
