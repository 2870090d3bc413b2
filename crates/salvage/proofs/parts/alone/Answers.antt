-- `parts::alone` meets its contract. Assumes nothing.
use mathlib.Core.Path.{◌≡◌, ap, ◌∙◌}
use Rattle.std.specs.Prelude.{Err}
use Rattle.std.proofs.Common.{rules}
use Rattle.format.specs.Refused.{meant}
use Rattle.format.specs.Messages.{outcome}
use Rattle.salvage.specs.Told.{met_told}
use Rattle.scan.proofs.Moved.{mapped_ok, mapped_err}
use Rattle.salvage.proofs.Verdicts.{verdict_refused, verdict_many, few, verdict_sound}
use Rattle.salvage.proofs.parts.alone.Goals as goal

pub returns-in_err-sum : goal.returns-in_err-sum
returns-in_err-sum c =
    let r : c.from_residual.result ≡ Err c.in_err-sum.field-0.0 = search rules in
    let g = mapped_err c.scan_message.result c.map_err.result _ c.map_err.ensures.cases c.in_err-sum.field-0.0 c.in_err-sum.was in
    let e : c.in_err-sum.field-0.0 ≡ g.0.refusal = search rules in
    ap met_told (r ∙ ap Err e) ∙ verdict_refused (outcome c.args.o.now) (meant g.0) (rw g.1 at c.scan_message.ensures)

pub returns-then-too_many : goal.returns-then-too_many
returns-then-too_many c =
    let o = mapped_ok c.scan_message.result c.map_err.result _ c.map_err.ensures.cases _ c.in_ok-sum.was in
    verdict_many (outcome c.args.o.now) c.in_ok-sum.sum (rw o at c.scan_message.ensures) (c.too_many.ensures.0 c.if-too_many.true)

pub returns : goal.returns
returns c =
    let o = mapped_ok c.scan_message.result c.map_err.result _ c.map_err.ensures.cases _ c.in_ok-sum.was in
    verdict_sound (outcome c.args.o.now) c.in_ok-sum.sum (rw o at c.scan_message.ensures) (few _ _ _ c.too_many.ensures c.if-too_many.false)
