-- `ustruc_at` meets its contract. Assumes nothing.
use mathlib.Core.Path.{ap, ◌∙◌}
use Rattle.explain.specs.Told.{word_asked, elements_of, places_of}
use Rattle.explain.proofs.Leads.{kinds_told_lem}
use Rattle.explain.proofs.site.ustruc_at.Goals as goal

pub returns : goal.returns
returns c =
    let es = elements_of c.args.contents in
    kinds_told_lem _ es _ _ c.requires (c.places_in-p.ensures ∙ ap (λ k. places_of (word_asked k) es) c.kind_by.ensures) c.kinds_apart.ensures
