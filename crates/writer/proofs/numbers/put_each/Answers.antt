-- `writer::numbers::put_each` meets its contract: the bytes from `i` on stand already, and the rest are those of what is left. Assumes nothing.
use native.Mathlib.Omega.{arith}
use mathlib.Core.Path.{◌≡◌, sym}
use Rattle.format.specs.Numbers.{be}
use Rattle.format.specs.Answers.{over}
use Rattle.writer.proofs.NumberLaws.{low_turn}
use Rattle.writer.proofs.numbers.put_each.Goals as goal

pub loop-i-preserved : goal.loop-i-preserved
loop-i-preserved c = low_turn c.args.k c.args.n c.loop-i.i c.loop-i.x c.args.out.now c.loop-i.out (omega arith) (omega arith) c.loop-i.invariant

pub returns : goal.returns
unfolding be over
returns c =
    let e : c.loop-i.i ≡ 0 = omega arith in
    sym (rw e at c.loop-i.invariant)
