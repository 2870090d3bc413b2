-- `closed_at` meets its contract, by what the scan answers. Assumes nothing.
use mathlib.Core.Path.{◌≡◌}
use mathlib.Core.Logic.{inl, inr}
use Rattle.std.specs.Prelude.{Ok}
use Rattle.wire.specs.Heads.{wrap_of}
use Rattle.scan.specs.Answer.{answer}
use Rattle.format.specs.Refused.{meant}
use Rattle.explain.specs.Reasons.{between}
use Rattle.explain.specs.Told.{said_in}
use Rattle.explain.proofs.Leads.{closed_refused, first_kind, closed_struc, closed_repeat, closed_ustruc, closed_edt}
use Rattle.explain.proofs.site.closed_at.Goals as goal
use Rattle.explain.proofs.site.closed_at.Goals.{In-Ok}

-- what the scan accepted
accepted : (c : In-Ok) → Ok c.in-Ok.sum ≡ answer (said_in c.args.contents)
unfolding between
accepted c = c.in-Ok.ensures

pub returns-in-Err : goal.returns-in-Err
unfolding between
returns-in-Err c = closed_refused _ _ _ (meant c.in-Err.field-0) c.in-Err.ensures

pub ustruc_at-requires : goal.ustruc_at-requires
ustruc_at-requires c = first_kind c.args.contents c.in-Ok.sum (accepted (goal.at.ustruc_at-requires c).In-Ok) _ c.kind.ensures

pub returns-in-Ustruc : goal.returns-in-Ustruc
unfolding wrap_of
returns-in-Ustruc c = rw c.in-Ustruc.is (closed_ustruc c.args.contents c.in-Ok.sum (accepted (goal.at.returns-in-Ustruc c).In-Ok) _ c.ustruc_at.ensures)

pub returns-in-Edt : goal.returns-in-Edt
unfolding wrap_of
returns-in-Edt c = rw c.in-Edt.is (closed_edt c.args.contents c.in-Ok.sum (accepted (goal.at.returns-in-Edt c).In-Ok) _ c.kind-in-Edt.ensures _ c.edt_at.ensures)

pub returns-in-Struc : goal.returns-in-Struc
unfolding wrap_of
returns-in-Struc c =
    let a = accepted (goal.at.returns-in-Struc c).In-Ok in
    elim c.in-Struc.is [ inl e ↦ rw e (closed_struc c.args.contents c.in-Ok.sum a) | inr e ↦ rw e.1 (closed_repeat c.args.contents c.in-Ok.sum a e.0) ]
