-- The loop's invariant: so many codes of the copies are there. Assumes nothing.
use Rattle.std.proofs.Common.{refl, arith}
use Rattle.fill.proofs.Letters.{positive, copied_step, copied_end}
use Rattle.fill.proofs.SomeCodes.{code_word}
use Rattle.fill.proofs.Eights.{copied_eights}
use Rattle.fill.proofs.codes.copy_from.Goals as goal

pub loop-to-preserved-then-to-n : goal.loop-to-preserved-then-to-n
loop-to-preserved-then-to-n c =
    let a = c.args in
    let l = c.loop-to in
    let v = l.invariant in
    let p = c.period_of-period.ensures in
    let m = positive a.m a.k a.n l.to v.from (omega arith) in
    copied_eights _ _ _ _ _ _ _ p.1.0 _ _ (omega arith) c.if-to-eq0.true (omega (arith, v.long)) p.1.1 (omega arith) (p.0 m) v c.eight_at.ensures

pub loop-to-preserved : goal.loop-to-preserved
loop-to-preserved c =
    let e = c.code_at.ensures in
    let s = c.put_some in
    copied_step _ _ _ _ _ _ _ (omega arith) c.loop-to.invariant _ e.1 _ s.auto.table (s.ensures _ refl (code_word _ e.0))

pub returns : goal.returns
returns c = copied_end _ _ _ _ _ _ _ (omega arith) c.loop-to.invariant
