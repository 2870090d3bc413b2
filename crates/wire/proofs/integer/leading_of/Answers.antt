-- `integer::leading_of` meets its contract. Assumes nothing.
use native.Mathlib.Omega.{arith}
use mathlib.Core.Path.{refl, sym, subst}
use lib.ListN.{get_or}
use Rattle.format.proofs.SignedLaws.{handed}
use Rattle.wire.specs.Heads.{LeadingIs}
use Rattle.wire.proofs.Leadings.{skip_all, leading_small, leading_long, leading_other}
use Rattle.wire.proofs.integer.leading_of.Goals as goal

pub returns-then-i-s : goal.returns-then-i-s
returns-then-i-s c = skip_all c.args.s.now c.unpadded-i.result (omega arith) c.unpadded-i.ensures

pub returns-in-Sinteger : goal.returns-in-Sinteger
returns-in-Sinteger c =
    let s = c.args.s.now in
    let i = c.unpadded-i.result in
    leading_small s i (get_or s i 0) _ (handed _ c.from.result c.from.type_inv c.from.ensures) refl (omega arith) refl c.in-Sinteger.ensures c.unpadded-i.ensures

pub returns-in-Linteger : goal.returns-in-Linteger
returns-in-Linteger c =
    let s = c.args.s.now in
    let i = c.unpadded-i.result in
    subst (LeadingIs s) (sym c.linteger_at.ensures) (leading_long s i (get_or s i 0) (omega arith) refl c.in-Linteger.ensures c.unpadded-i.ensures)

pub returns-in_default : goal.returns-in_default
returns-in_default c =
    let s = c.args.s.now in
    let i = c.unpadded-i.result in
    let k = c.class_of in
    leading_other s i (get_or s i 0) k.result (omega arith) refl k.ensures (λ e. c.in_default.not-Sinteger (sym e)) (λ e. c.in_default.not-Linteger (sym e))
    (omega (arith, c.type_inv.s i)) c.unpadded-i.ensures
