-- `writer::survey::survey_container` and `survey_run`, which call each other, meet their contracts: the depth still allowed falls at
-- each call of a container. The loop has passed the rows up to p: they are those of the items counted so far. Assumes nothing.
use mathlib.Core.Path.{sym, ◌∙◌}
use native.Mathlib.Omega.{arith}
use Rattle.std.proofs.lemmas.Result.{err_from_is_err_and}
use Rattle.writer.proofs.NumberLaws.{size_most}
use Rattle.writer.proofs.Passing.{passed_bound}
use Rattle.writer.proofs.Surveying.{group_at, container_deepest, container_beyond, container_unfit, container_kind_lem, container_count, container_whole}
use Rattle.writer.proofs.Surveying.{kind_told, run_unfit, leaves_on, container_on, string_behind, group_behind}
use Rattle.writer.proofs.survey.+survey_container_survey_run.Goals as goal
use Rattle.writer.proofs.survey.+survey_container_survey_run.Goals.{survey_container-then-inner-row-via-then-inner-row, survey_container-then-inner-row-via-else-inner-row+then-not-kind_fits}

-- ---- survey_container
pub survey_container-returns-then-depth-eq0 : goal.survey_container-returns-then-depth-eq0
survey_container-returns-then-depth-eq0 t c = container_deepest (group_at c.args.at c.requires) _ c.if-depth-eq0.true

pub survey_container-returns-then-at-beneath : goal.survey_container-returns-then-at-beneath
survey_container-returns-then-at-beneath t c = container_beyond (group_at c.args.at c.requires) (rw c.row-row.ensures.b at c.if-at-beneath.true)

pub survey_container-returns-in_err-inner : goal.survey_container-returns-in_err-inner
survey_container-returns-in_err-inner t c =
    let p = err_from_is_err_and c.from_residual.result c.from_residual.ensures.1 in
    let g = group_at c.args.at c.requires in
    rw (p.1, p.2) (container_unfit g _ _ c.if-depth-eq0.false (rw c.row-row.ensures.b at c.in_err-inner.ensures))

pub survey_container-returns-then-inner-row : goal.survey_container-returns-then-inner-row
survey_container-returns-then-inner-row t c =
    let row = c.row-row.ensures in
    let g = group_at c.args.at c.requires in
    elim c.then-inner-row.branch [
      | survey_container-then-inner-row-via-then-inner-row w ↦
          container_count g _ (omega arith) (rw row.b at c.in_ok-inner.ensures) (λ z. w.if-inner-row.true (z ∙ sym row.a))
      | survey_container-then-inner-row-via-else-inner-row+then-not-kind_fits w ↦
          container_kind_lem g (kind_told _ _ _ _ _ _ _ _ row.kind w.rows.ensures.words w.rows.ensures.from (rw row.b at w.rows.ensures.to) (sym w.if-not-kind_fits.true ∙ w.kind_fits.ensures))
    ]

pub survey_container-overflow_add-result : goal.survey_container-overflow_add-result
survey_container-overflow_add-result t c =
    let b = passed_bound _ _ _ c.args.at.table.in_order _ _ _ _ _ _ _ (omega arith) c.in_ok-inner.ensures in
    omega (arith, c.size_length.ensures, size_most c.in_ok-inner.inner.bytes (omega arith))

pub survey_container-overflow_add-result-2 : goal.survey_container-overflow_add-result-2
survey_container-overflow_add-result-2 t c =
    let b = passed_bound _ _ _ c.args.at.table.in_order _ _ _ _ _ _ _ (omega arith) c.in_ok-inner.ensures in
    omega (arith, c.size_length.ensures, size_most c.in_ok-inner.inner.bytes (omega arith))

pub survey_container-returns : goal.survey_container-returns
survey_container-returns t c =
    let row = c.row-row.ensures in
    let g = group_at c.args.at c.requires in
    container_whole g _ (omega arith) (rw row.b at c.in_ok-inner.ensures) c.if-depth-eq0.false (c.if-inner-row.false ∙ row.a)
    (kind_told _ _ _ _ _ _ _ _ row.kind c.rows.ensures.words c.rows.ensures.from (rw row.b at c.rows.ensures.to) (sym c.if-not-kind_fits.false ∙ c.kind_fits.ensures))
    _ c.size_length.ensures (omega arith)

-- ---- survey_run
pub survey_run-overflow_add-bytes : goal.survey_run-overflow_add-bytes
survey_run-overflow_add-bytes t c =
    let b = passed_bound _ _ _ c.args.table.in_order _ _ _ _ _ _ _ (omega (arith, c.in-Some.ensures.1)) (leaves_on c.loop-p.invariant.1 c.in-Some.ensures.2) in
    omega arith

pub survey_run-overflow_add-items : goal.survey_run-overflow_add-items
survey_run-overflow_add-items t c =
    let b = passed_bound _ _ _ c.args.table.in_order _ _ _ _ _ _ _ (omega (arith, c.in-Some.ensures.1)) (leaves_on c.loop-p.invariant.1 c.in-Some.ensures.2) in
    omega arith

pub survey_run-loop-p-preserved-then-row-lt-STRUC : goal.survey_run-loop-p-preserved-then-row-lt-STRUC
survey_run-loop-p-preserved-then-row-lt-STRUC t c = (c.in-Some.ensures.1, leaves_on c.loop-p.invariant.1 c.in-Some.ensures.2)

pub survey_run-overflow_add-bytes-then-row-eq-STRING : goal.survey_run-overflow_add-bytes-then-row-eq-STRING
survey_run-overflow_add-bytes-then-row-eq-STRING t c =
    let j = string_behind _ _ _ _ _ _ c.in_ok-one.one c.row-row.ensures.kind c.if-row-eq-STRING.true c.in_ok-one.ensures in
    let b = passed_bound _ _ _ c.args.table.in_order _ _ _ _ _ _ _ (omega (arith, j.0)) (container_on c.loop-p.invariant.1 j.1) in
    omega arith

pub survey_run-overflow_add-items-then-row-eq-STRING : goal.survey_run-overflow_add-items-then-row-eq-STRING
survey_run-overflow_add-items-then-row-eq-STRING t c =
    let j = string_behind _ _ _ _ _ _ c.in_ok-one.one c.row-row.ensures.kind c.if-row-eq-STRING.true c.in_ok-one.ensures in
    let b = passed_bound _ _ _ c.args.table.in_order _ _ _ _ _ _ _ (omega (arith, j.0)) (container_on c.loop-p.invariant.1 j.1) in
    omega (arith, j.0)

pub survey_run-loop-p-preserved-then-row-eq-STRING : goal.survey_run-loop-p-preserved-then-row-eq-STRING
survey_run-loop-p-preserved-then-row-eq-STRING t c =
    let j = string_behind _ _ _ _ _ _ c.in_ok-one.one c.row-row.ensures.kind c.if-row-eq-STRING.true c.in_ok-one.ensures in
    (j.0, container_on c.loop-p.invariant.1 j.1)

pub survey_run-returns-in_err-one : goal.survey_run-returns-in_err-one
survey_run-returns-in_err-one t c =
    let p = err_from_is_err_and c.from_residual.result c.from_residual.ensures.1 in
    rw (p.1, p.2) (run_unfit c.loop-p.invariant.1 _ c.loop-p.invariant.0 c.in_err-one.ensures)

pub survey_run-returns-in_err-one-2 : goal.survey_run-returns-in_err-one-2
survey_run-returns-in_err-one-2 t c =
    let r = c.from_residual-in_err-one-2 in
    let p = err_from_is_err_and r.result r.ensures.1 in
    rw (p.1, p.2) (run_unfit c.loop-p.invariant.1 _ c.loop-p.invariant.0 c.in_err-one-2.ensures)

pub survey_run-overflow_add-bytes-else-row-eq-STRING : goal.survey_run-overflow_add-bytes-else-row-eq-STRING
survey_run-overflow_add-bytes-else-row-eq-STRING t c =
    let row = c.row-row.ensures in
    let j = group_behind _ _ _ _ _ _ _ c.in_ok-one-2.one row.kind row.b c.if-row-lt-STRUC.false c.if-row-eq-STRING.false c.in_ok-one-2.ensures in
    let b = passed_bound _ _ _ c.args.table.in_order _ _ _ _ _ _ _ (omega (arith, j.0)) (container_on c.loop-p.invariant.1 j.1) in
    omega arith

pub survey_run-overflow_add-items-else-row-eq-STRING : goal.survey_run-overflow_add-items-else-row-eq-STRING
survey_run-overflow_add-items-else-row-eq-STRING t c =
    let row = c.row-row.ensures in
    let j = group_behind _ _ _ _ _ _ _ c.in_ok-one-2.one row.kind row.b c.if-row-lt-STRUC.false c.if-row-eq-STRING.false c.in_ok-one-2.ensures in
    let b = passed_bound _ _ _ c.args.table.in_order _ _ _ _ _ _ _ (omega (arith, j.0)) (container_on c.loop-p.invariant.1 j.1) in
    omega (arith, j.0)

pub survey_run-overflow_add-p-else-row-eq-STRING : goal.survey_run-overflow_add-p-else-row-eq-STRING
survey_run-overflow_add-p-else-row-eq-STRING t c =
    let row = c.row-row.ensures in
    let j = group_behind _ _ _ _ _ _ _ c.in_ok-one-2.one row.kind row.b c.if-row-lt-STRUC.false c.if-row-eq-STRING.false c.in_ok-one-2.ensures in
    omega (arith, j.0)

pub survey_run-overflow_add-p-else-row-eq-STRING-2 : goal.survey_run-overflow_add-p-else-row-eq-STRING-2
survey_run-overflow_add-p-else-row-eq-STRING-2 t c =
    let row = c.row-row.ensures in
    let j = group_behind _ _ _ _ _ _ _ c.in_ok-one-2.one row.kind row.b c.if-row-lt-STRUC.false c.if-row-eq-STRING.false c.in_ok-one-2.ensures in
    omega (arith, j.0)

pub survey_run-loop-p-preserved : goal.survey_run-loop-p-preserved
survey_run-loop-p-preserved t c =
    let row = c.row-row.ensures in
    let j = group_behind _ _ _ _ _ _ _ c.in_ok-one-2.one row.kind row.b c.if-row-lt-STRUC.false c.if-row-eq-STRING.false c.in_ok-one-2.ensures in
    (j.0, container_on c.loop-p.invariant.1 j.1)
