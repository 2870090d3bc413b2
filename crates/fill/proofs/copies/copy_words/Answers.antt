-- The loop's invariant: so many copies are there. Assumes nothing.
use Rattle.std.proofs.Common.{length, arith}
use Rattle.fill.proofs.AgainLaws.{none_there, repeated_start, WordsRoom, words_room, repeated_step}
use Rattle.fill.proofs.copies.copy_words.Goals as goal
use Rattle.fill.proofs.copies.copy_words.Goals.{After-min-more}

-- what a round asks for
round_at : (c : After-min-more)
    → WordsRoom c.args.n c.loop-done.done c.min-more.result (length c.args.table.now)
round_at c = words_room _ c.args.k _ _ _ c.requires.1 (omega arith) (omega arith)

pub copy_plain-requires : goal.copy_plain-requires
copy_plain-requires c =
    let l = c.loop-done.invariant.long in
    let r = round_at (goal.at.copy_plain-requires c).After-min-more in
    (r.0, omega arith)

pub loop-done-preserved : goal.loop-done-preserved
loop-done-preserved c =
    repeated_step _ _ _ _ _ _ _ c.requires.1 (omega arith) (omega arith) c.loop-done.invariant c.copy_plain.ensures

pub returns-then-n-eq0 : goal.returns-then-n-eq0
returns-then-n-eq0 c = none_there _ _ _ c.if-n-eq0.true

pub loop-done-init : goal.loop-done-init
loop-done-init c = repeated_start _ _ _ c.requires.0
