-- `walk::survey` meets its contract. Assumes nothing.
use native.Mathlib.Omega.{arith}
use Rattle.salvage.proofs.PartCases.{bad_upto, bad_some}
use Rattle.salvage.proofs.Surveying.{survey_start, survey_kept, survey_few, survey_replaced, survey_dropped, survey_end}
use Rattle.salvage.proofs.walk.survey.Goals as goal
use Rattle.salvage.proofs.walk.survey.Goals.{In-Kept, In-Replaced}

pub loop-p-init : goal.loop-p-init
loop-p-init c = survey_start _

pub overflow_add-all-in-Kept : goal.overflow_add-all-in-Kept
overflow_add-all-in-Kept c = omega (arith, (survey_few _ _ _ c.loop-p.invariant c.in-Kept.n c.in-Kept.said c.in-Kept.ensures).0, c.requires)

pub overflow_add-all-in-Kept-2 : goal.overflow_add-all-in-Kept-2
overflow_add-all-in-Kept-2 c = omega (arith, (survey_few _ _ _ c.loop-p.invariant c.in-Kept.n c.in-Kept.said c.in-Kept.ensures).1, c.requires)

pub loop-p-preserved-in-Kept : goal.loop-p-preserved-in-Kept
loop-p-preserved-in-Kept c = survey_kept _ _ _ c.loop-p.invariant c.in-Kept.n c.in-Kept.said c.in-Kept.ensures

pub overflow_add-p-in-Replaced : goal.overflow_add-p-in-Replaced
overflow_add-p-in-Replaced c = omega (arith, bad_upto c.args.input.now c.loop-p.p c.in-Replaced.n _ c.in-Replaced.ensures c.loop-p.invariant.upto, c.requires)

pub loop-p-smaller-in-Replaced : goal.loop-p-smaller-in-Replaced
loop-p-smaller-in-Replaced c = omega (arith, bad_some c.args.input.now c.loop-p.p c.in-Replaced.n _ c.in-Replaced.ensures)

pub loop-p-preserved-in-Replaced : goal.loop-p-preserved-in-Replaced
loop-p-preserved-in-Replaced c = survey_replaced _ _ _ c.loop-p.invariant c.or-all.result c.or-all.ensures c.in-Replaced.n _ c.in-Replaced.ensures

pub loop-p-preserved : goal.loop-p-preserved
loop-p-preserved c =
    survey_dropped _ _ _ c.loop-p.invariant c.or-all-in-Dropped.result c.or-all-in-Dropped.ensures _ c.loop-p-test.true c.in-Dropped.ensures

pub returns : goal.returns
returns c = survey_end _ _ _ c.loop-p.invariant c.loop-p-test.false
