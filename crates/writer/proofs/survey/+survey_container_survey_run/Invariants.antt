use Prim.Native.Nat.{◌+◌, ◌-◌, ◌*◌, ◌≤◌}
use Rattle.table.specs.Rows.{words_of}
use Rattle.writer.specs.Surveys.{RowsPassed}
use Rattle.writer.proofs.survey.+survey_container_survey_run.Given as goal

abbrev pub decreases-survey_container : goal.decreases-survey_container
decreases-survey_container l = 2 * l.depth

abbrev pub decreases-survey_run : goal.decreases-survey_run
decreases-survey_run l = 2 * l.depth + 1

abbrev pub invariant-survey_run-loop-p : goal.invariant-survey_run-loop-p
invariant-survey_run-loop-p l =
    let w = l.table.words.now in (l.p ≤ l.to) × RowsPassed w (words_of w) l.depth l.before l.from l.base l.p l.items l.bytes

abbrev pub decreases-survey_run-loop-p : goal.decreases-survey_run-loop-p
decreases-survey_run-loop-p l = l.to - l.p
