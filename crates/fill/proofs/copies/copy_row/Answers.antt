-- The loop's invariant: every row so far is the first. Assumes nothing.
use Rattle.std.proofs.Common.{arith}
use Rattle.fill.proofs.RowFill.{filling_start, filling_step}
use Rattle.fill.proofs.copies.copy_row.Goals as goal

pub loop-j-init : goal.loop-j-init
loop-j-init c = filling_start c.args.k c.args.table.now c.requires.0 (omega (arith, c.type_inv.table 2))

pub loop-j-preserved : goal.loop-j-preserved
loop-j-preserved c =
    filling_step c.args.k _ _ _ c.args.table.now c.loop-j.table c.loop-j.j c.requires.1 (omega arith) c.loop-j.invariant
