-- Rows without data words are copied as they stand, one of them in its own way, and any other rows are rebased. Assumes nothing.
use Rattle.std.proofs.Common.{ℕ, ◌<◌, get_or, arith}
use Rattle.fill.proofs.RowFill.{plain_goal}
use Rattle.fill.proofs.copies.copy_rows.Goals as goal
use Rattle.fill.proofs.copies.copy_rows.Goals.{Else-rows-eq1}

-- the table's words
words_at : (c : Else-rows-eq1) (i : ℕ) → get_or c.args.table.now i 0 < 18446744073709551616
words_at c i = omega (arith, c.type_inv.table i)

pub returns-then-words-eq0 : goal.returns-then-words-eq0
returns-then-words-eq0 c =
    let z = c.if-words-eq0.true in
    plain_goal c.args.words c.args.rows c.args.k c.args.table.now _ z (words_at (goal.at.returns-then-words-eq0 c).Else-rows-eq1) c.copy_words.ensures
