-- `writer::survey::survey_leaves` meets its contract. Assumes nothing.
use mathlib.Core.Path.{sym, ◌∙◌}
use Rattle.writer.proofs.Surveying.{survey_at, chars_told}
use Rattle.writer.proofs.survey.survey_leaves.Goals as goal

pub returns-in-3 : goal.returns-in-3
returns-in-3 c =
    let rows = c.rows.ensures in
    let next = rw (rows.words, rows.from, rows.to) at c.small_until-next.ensures.small_rows in
    let stops = rw (rows.words, rows.to) at c.small_until-next.ensures.stops in
    rw c.then_some.ensures (chars_told (survey_at c.args.at) _ next stops (sym c.row.ensures.kind ∙ c.in-3.is))
