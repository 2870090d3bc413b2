-- `short::wrap_by` tells the byte by its class. Assumes nothing.
use mathlib.Core.Path.{sym, ◌∙◌}
use Rattle.wire.proofs.ShortLaws.{wrap_edt, wrap_ustruc, wrap_other}
use Rattle.wire.proofs.short.wrap_by.Goals as goal

pub returns-in-Edt : goal.returns-in-Edt
returns-in-Edt c = wrap_edt c.args.b (sym c.in-Edt.ensures)

pub returns-in-Ustruc : goal.returns-in-Ustruc
returns-in-Ustruc c = wrap_ustruc c.args.b (sym c.in-Ustruc.ensures)

pub returns-in_default : goal.returns-in_default
returns-in_default c =
    wrap_other c.args.b (λ e. c.in_default.not-Edt (c.class_of.ensures ∙ e)) (λ e. c.in_default.not-Ustruc (c.class_of.ensures ∙ e))
