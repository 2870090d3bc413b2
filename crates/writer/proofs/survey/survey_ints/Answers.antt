-- `writer::survey::survey_ints` meets its contract. Assumes nothing.
use mathlib.Core.Path.{sym, ◌∙◌}
use native.Mathlib.Omega.{arith}
use Rattle.writer.proofs.Surveying.{survey_at, int_passed, no_int, ints_passed}
use Rattle.writer.proofs.survey.survey_ints.Goals as goal

pub returns-then-row-ne0 : goal.returns-then-row-ne0
returns-then-row-ne0 c = no_int (survey_at c.args.at) c.requires (λ z. c.if-row-ne0.true (c.row-row.ensures.a ∙ z))

pub returns-then-row : goal.returns-then-row
returns-then-row c =
    let row = c.row-row.ensures in
    let next = rw (c.rows.ensures.words, c.rows.ensures.from, c.rows.ensures.to) at c.small_until-next.ensures.small_rows in
    let stops = rw (c.rows.ensures.words, c.rows.ensures.to) at c.small_until-next.ensures.stops in
    ints_passed (survey_at c.args.at) _ next stops (record { kind = c.requires; none = sym row.a ∙ c.if-row-ne0.false; low = omega arith })

pub returns : goal.returns
returns c =
    let row = c.row-row.ensures in
    int_passed (survey_at c.args.at) _ c.requires (sym row.a ∙ c.if-row-ne0.false) (rw row.b at c.int_length.ensures)
