-- `edt_at` meets its contract. Assumes nothing.
use mathlib.Core.Path.{sym, ◌∙◌}
use Rattle.format.proofs.Choices.{pick_yes, pick_no}
use Rattle.explain.proofs.Leads.{first_told, second_told}
use Rattle.explain.proofs.site.edt_at.Goals as goal

pub returns-then-leads_edt : goal.returns-then-leads_edt
returns-then-leads_edt c =
    second_told _ _ _ _ c.places_in-p.ensures c.element_told.ensures ∙ sym (pick_yes _ _ _ (sym c.leads_edt.ensures ∙ c.if-leads_edt.true))

pub returns-else-leads_edt : goal.returns-else-leads_edt
returns-else-leads_edt c =
    first_told _ _ _ _ c.places_in-p.ensures c.element_told-else-leads_edt.ensures ∙ sym (pick_no _ _ _ (sym c.leads_edt.ensures ∙ c.if-leads_edt.false))
