-- `short::has_elements` tells the byte by its class. Assumes nothing.
use mathlib.Core.Path.{◌∙◌}
use Rattle.wire.proofs.ShortLaws.{has_class, has_none}
use Rattle.wire.proofs.short.has_elements.Goals as goal

pub returns-in-Struc : goal.returns-in-Struc
returns-in-Struc c = has_class c.class_of.result c.in-Struc.is c.args.b c.class_of.ensures

pub returns-in_default : goal.returns-in_default
returns-in_default c =
    let k = c.class_of.ensures in
    let n = c.in_default in
    has_none c.args.b (λ e. n.not-Struc (k ∙ e)) (λ e. n.not-Edt (k ∙ e)) (λ e. n.not-Ustruc (k ∙ e)) (λ e. n.not-String (k ∙ e))
