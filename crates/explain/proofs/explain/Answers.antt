-- `explain` meets its contract. Assumes nothing.
use mathlib.Core.Path.{ap, ◌∙◌}
use Rattle.format.specs.Refused.{meant}
use Rattle.explain.specs.Told.{explain_told}
use Rattle.explain.proofs.Answering.{long_told, fault_told, accepted_told, scan_refused}
use Rattle.explain.proofs.explain.Goals as goal

pub returns-then-message-gt-MOST_BYTES : goal.returns-then-message-gt-MOST_BYTES
returns-then-message-gt-MOST_BYTES c = long_told _ _ _ _ _ c.if-message-gt-MOST_BYTES.true c.told.ensures c.refused.ensures

pub refused_by-requires : goal.refused_by-requires
refused_by-requires c = (c.if-message-gt-MOST_BYTES.false, scan_refused _ (meant c.in-Err.f) c.in-Err.ensures)

pub returns-in-Err : goal.returns-in-Err
returns-in-Err c =
    c.refused_by.ensures ∙ fault_told _ _ _ (meant c.in-Err.f) c.if-message-gt-MOST_BYTES.false (scan_refused _ (meant c.in-Err.f) c.in-Err.ensures)

pub returns-in-Ok : goal.returns-in-Ok
returns-in-Ok c =
    ap (λ r. explain_told r c.args.list.now) c.measured.ensures ∙ accepted_told _ _ _ _ c.if-message-gt-MOST_BYTES.false c.in-Ok.ensures
