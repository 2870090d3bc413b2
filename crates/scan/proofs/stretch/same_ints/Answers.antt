-- `same_ints` meets its contract: up to e the bytes from i on say so many integers. Assumes nothing.
use Rattle.scan.proofs.Stretches.{ints_none, ints_join, ints_long}
use Rattle.scan.proofs.stretch.same_ints.Goals as goal

pub loop-e-init : goal.loop-e-init
loop-e-init c = ints_none c.args.s.now c.args.i c.requires.0

pub loop-e-preserved : goal.loop-e-preserved
loop-e-preserved c =
    let p = c.requires in
    ints_join c.args.s.now _ _ _ _ _ c.loop-e.invariant
    (ints_long c.args.s.now _ _ _ c.if-s-e.false p.1 p.2 p.3 c.loop-e-test.true)
