-- `measured` meets its contract, test by test. Assumes nothing.
use Rattle.explain.proofs.Faultless.{many, few, short_table, enough_words}
use Rattle.explain.proofs.measured.Goals as goal

pub returns-then-too_many : goal.returns-then-too_many
returns-then-too_many c = many _ _ _ _ _ _ _ c.told.ensures c.refused.ensures c.min.ensures c.min-then-too_many.ensures (c.too_many.ensures.0 c.if-too_many.true)

pub returns-then-lent-needed : goal.returns-then-lent-needed
returns-then-lent-needed c =
    short_table c.args.rows c.args.words _ _ _ (few _ _ _ c.too_many.ensures c.if-too_many.false) c.told-then-lent-needed.ensures c.refused-then-lent-needed.ensures c.if-lent-needed.true

pub returns : goal.returns
returns c =
    enough_words c.args.rows c.args.words _ _ _ (few _ _ _ c.too_many.ensures c.if-too_many.false) c.told-2.ensures c.accepted.ensures c.if-lent-needed.false
