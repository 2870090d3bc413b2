-- `ints_from` meets its contract: up to e the bytes from i on say so many integers. Assumes nothing.
use Rattle.std.proofs.Common.{◌+◌, refl, ap, arith}
use Rattle.scan.proofs.Stretches.{ints_none, ints_join, ints_smalls, ints_long}
use Rattle.scan.proofs.stretch.ints_from.Goals as goal

pub loop-e-init : goal.loop-e-init
loop-e-init c = ints_none c.args.s.now _ c.requires

pub loop-e-preserved-then-this-lt192 : goal.loop-e-preserved-then-this-lt192
loop-e-preserved-then-this-lt192 c =
    let s = c.args.s.now in
    ints_join s _ _ _ _ _ c.loop-e.invariant (ints_smalls s _ _ (omega arith) (omega arith) c.smalls_end-r.ensures)

pub loop-e-preserved-then-left-ge64 : goal.loop-e-preserved-then-left-ge64
loop-e-preserved-then-left-ge64 c =
    let u = c.following_of-size.ensures in
    let s = c.args.s.now in
    ints_join s _ _ _ _ _ c.loop-e.invariant
    (ints_join s _ _ _ _ _
    (ints_long s _ _ _ refl (omega arith) (omega arith) (ap (λ k. 1 + k) u.0) (omega (arith, u.2, c.if-left-ge64.true)))
    c.same_ints-l.ensures)

pub loop-e-preserved : goal.loop-e-preserved
loop-e-preserved c =
    let u = c.following_of-size.ensures in
    let s = c.args.s.now in
    ints_join s _ _ _ _ _ c.loop-e.invariant
    (ints_long s _ _ _ refl (omega arith) (omega arith) (ap (λ k. 1 + k) u.0) c.if-left-size.true)
