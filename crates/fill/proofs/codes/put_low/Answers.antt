-- The loop's invariant: the codes of the bytes so far stand behind what was there. Assumes nothing.
use Rattle.std.proofs.Common.{◌≡◌, ◌*◌, ◌/◌, length, arith}
use Rattle.fill.proofs.LowBytes.{low_rest, eighths_start, eighths_more}
use Rattle.fill.proofs.codes.put_low.Goals as goal

pub loop-j-init : goal.loop-j-init
loop-j-init c = eighths_start _ _ _

pub loop-j-preserved : goal.loop-j-preserved
loop-j-preserved c =
    let p = c.put_some in
    eighths_more _ _ _ _ _ _ _ (omega arith) c.low_eight.ensures c.loop-j.invariant p.auto.table p.ensures

pub returns-then-not-is_empty : goal.returns-then-not-is_empty
returns-then-not-is_empty c =
    let k : c.loop-j.j ≡ length c.args.c.now / 8 = omega arith in
    low_rest _ _ (8 * (length c.args.c.now / 8)) _ _ _ _ (omega arith) c.low_some.ensures (rw k at c.loop-j.invariant.spelt) c.put_some-then-not-is_empty.ensures
