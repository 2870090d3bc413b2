-- `counted_in` meets its contract, by what stands in front. Assumes nothing.
use borrow.Author.Rules.{rules}
use mathlib.Core.Path.{refl, ap, ◌∙◌, subst}
use Rattle.std.specs.Prelude.{Err}
use Rattle.wire.specs.Heads.{LeadingIs}
use Rattle.format.proofs.SignedLaws.{handed}
use Rattle.explain.specs.declared.evidence.Evidence.TheVariants.{Number}
use Rattle.explain.proofs.Counting.{counted_absent, counted_cut, counted_found}
use Rattle.explain.proofs.site.counted_in.Goals as goal

pub returns-in-Err-Absent : goal.returns-in-Err-Absent
returns-in-Err-Absent c = counted_absent _ _ _ (subst (λ e. LeadingIs c.args.c.now (Err e)) c.in-Err-Absent.field-0-is c.in-Err-Absent.ensures) c.in_place.ensures

pub returns-in-Err-Cut : goal.returns-in-Err-Cut
returns-in-Err-Cut c = counted_cut _ _ _ _ (subst (λ e. LeadingIs c.args.c.now (Err e)) c.in-Err-Cut.field-0-is c.in-Err-Cut.ensures)

pub returns-in-Ok : goal.returns-in-Ok
returns-in-Ok c = ap Number (handed c.in-Ok.n.value c.in-Ok.n.value (search rules) refl) ∙ counted_found _ _ _ _ c.in-Ok.ensures
