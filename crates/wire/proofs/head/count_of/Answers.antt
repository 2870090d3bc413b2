-- `head::count_of` meets its contract. Assumes nothing.
use mathlib.Core.Path.{ap, subst, ◌∙◌}
use Rattle.std.specs.Prelude.{Err}
use Prim.Native.Nat.{◌+◌}
use lib.Signed.{mag}
use mir.Syntax.{w64}
use mir.Val.{SFits}
use borrow.Author.Rules.{rules}
use Rattle.format.specs.Refusals.{further}
use Rattle.format.specs.Objects.{found}
use Rattle.format.proofs.SignedLaws.{found_negative, found_natural}
use Rattle.wire.specs.Heads.{LeadingIs}
use Rattle.wire.proofs.HeadLaws.{count_absent, count_cut, count_negative, count_right}
use Rattle.wire.proofs.head.count_of.Goals as goal

pub returns-in-Err-Absent : goal.returns-in-Err-Absent
returns-in-Err-Absent c = count_absent c.args.why c.args.h c.args.c.now c.here.result c.here.ensures
    (subst (λ e. LeadingIs c.args.c.now (Err e)) c.in-Err-Absent.field-0-is c.in-Err-Absent.ensures)

pub returns-in-Err-Cut : goal.returns-in-Err-Cut
returns-in-Err-Cut c =
    count_cut c.args.why c.args.h c.args.c.now c.in-Err-Cut.p c.in-Err-Cut.k c.further.result
    (c.further.ensures ∙ ap (further (1 + c.args.h + c.in-Err-Cut.p)) c.wants.ensures)
    (let r = subst (λ e. LeadingIs c.args.c.now (Err e)) c.in-Err-Cut.field-0-is c.in-Err-Cut.ensures in r.0)

pub returns-then-negative : goal.returns-then-negative
returns-then-negative c =
    let z = c.in-Ok.n.value in
    let f : SFits w64 z = search rules in
    count_negative c.args.why c.args.h c.args.c.now (mag z) c.in-Ok.n.bytes c.here-then-negative.result c.here-then-negative.ensures
    (c.in-Ok.ensures.0 ∙ ap (λ y. found y c.in-Ok.n.bytes) (found_negative z f c.if-negative.true))

pub returns-else-negative : goal.returns-else-negative
returns-else-negative c =
    let z = c.in-Ok.n.value in
    let f : SFits w64 z = search rules in
    let n = found_natural z f c.if-negative.false in
    count_right c.args.why c.args.h c.args.c.now _ (c.in-Ok.ensures.0 ∙ ap (λ y. found y c.in-Ok.n.bytes) n.0) n.1 c.in-Ok.ensures.1
