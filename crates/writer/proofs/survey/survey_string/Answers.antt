-- `writer::survey::survey_string` meets its contract. Assumes nothing.
use native.Mathlib.Omega.{arith}
use Rattle.writer.proofs.NumberLaws.{size_most}
use Rattle.writer.proofs.Surveying.{survey_at, text_deepest, text_wrong, text_whole, text_small}
use Rattle.writer.proofs.survey.survey_string.Goals as goal

pub returns-then-depth-eq0 : goal.returns-then-depth-eq0
returns-then-depth-eq0 c = text_deepest (survey_at c.args.at) c.requires _ c.if-depth-eq0.true

pub returns-in_default : goal.returns-in_default
returns-in_default c =
    let row = c.row-row.ensures in
    text_wrong (survey_at c.args.at) c.requires (rw (row.a, row.b) at c.in_default.ensures)

pub overflow_add-result : goal.overflow_add-result
overflow_add-result c =
    let row = c.row-row.ensures in
    let small = text_small (survey_at c.args.at) c.requires (rw (row.a, row.b) at c.in-Some.ensures).0 in
    omega (arith, c.size_length.ensures, size_most c.row-row.result.a (omega arith))

pub overflow_add-result-2 : goal.overflow_add-result-2
overflow_add-result-2 c =
    let row = c.row-row.ensures in
    let small = text_small (survey_at c.args.at) c.requires (rw (row.a, row.b) at c.in-Some.ensures).0 in
    omega (arith, c.size_length.ensures, size_most c.row-row.result.a (omega arith))

pub returns : goal.returns
returns c =
    let row = c.row-row.ensures in
    rw row.a (text_whole (survey_at c.args.at) c.requires _ _ _ c.if-depth-eq0.false (rw (row.a, row.b) at c.in-Some.ensures) (rw row.a at c.size_length.ensures))
