-- `writer::put::put_singles` meets its contract: the rows up to `q` are of the kind, and their bytes stand. Assumes nothing.
use native.Mathlib.Omega.{arith}
use Rattle.writer.proofs.StretchLaws.{strung_starts, strung_on}
use Rattle.writer.proofs.put.put_singles.Goals as goal

pub loop-q-init : goal.loop-q-init
loop-q-init c = strung_starts _ _ _ _ _ _

pub loop-q-preserved : goal.loop-q-preserved
loop-q-preserved c =
    let row = c.row-row.ensures in
    strung_on _ _ _ _ _ _ _ _ _ _ c.loop-q.invariant row.kind row.b c.if-row-one.false (omega arith) (omega arith)
