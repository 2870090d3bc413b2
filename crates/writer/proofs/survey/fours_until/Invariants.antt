use Prim.Native.Nat.{◌+◌, ◌*◌}
use Rattle.writer.specs.Surveys.{SmallRows}
use Rattle.writer.proofs.survey.fours_until.Given as goal

abbrev pub invariant-loop-four : goal.invariant-loop-four
invariant-loop-four l = SmallRows l.rows.words.now l.one.kind l.one.bound l.rows.from l.rows.to (l.rows.from + 4 * l.four)
