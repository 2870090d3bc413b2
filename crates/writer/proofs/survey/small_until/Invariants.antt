use Rattle.writer.specs.Surveys.{SmallRows}
use Rattle.writer.proofs.survey.small_until.Given as goal

abbrev pub invariant-loop-q : goal.invariant-loop-q
invariant-loop-q l = SmallRows l.rows.words.now l.one.kind l.one.bound l.rows.from l.rows.to l.q
