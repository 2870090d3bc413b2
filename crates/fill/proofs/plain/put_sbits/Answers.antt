-- `plain::put_sbits` writes the row, and the word where there is one. Assumes nothing.
use Rattle.std.proofs.Common.{arith}
use Rattle.fill.proofs.SbitsLaws.{word_place, none_put, one_put}
use Rattle.fill.proofs.plain.put_sbits.Goals as goal

pub returns-then-n-eq0 : goal.returns-then-n-eq0
returns-then-n-eq0 c =
    let r = c.put_row.ensures in
    let p = c.requires.2 in
    none_put _ _ _ _ _ _ p _ r _ c.following_of.ensures.0 _ c.if-n-eq0.true (rw c.item.ensures at c.past.ensures)

pub bounds-table-data : goal.bounds-table-data
bounds-table-data c =
    omega (arith, word_place _ _ _ _ c.if-n-eq0.false c.requires.3, c.put_row.auto.table)

pub returns : goal.returns
returns c =
    let p = c.requires in
    let r = c.put_row.ensures in
    let w = word_place _ _ _ _ c.if-n-eq0.false p.3 in
    rw c.data.ensures
    (one_put _ _ _ _ _ _ p.2 _ r _ c.following_of-2.ensures.0 _ (omega arith) p.0 w (rw c.item-2.ensures at c.past-2.ensures) _ c.sbits_word.ensures)
