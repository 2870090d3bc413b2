-- `put_run` meets its contract: the codes go where the data words go on, and the row to the front. Assumes nothing.
use Rattle.std.proofs.Common.{arith}
use Rattle.fill.proofs.TextLaws.{words_fit, count_few, row_room, string_put, run_room, run_put}
use Rattle.fill.proofs.text.put_run.Goals as goal

pub put_chars-n-requires : goal.put_chars-n-requires
put_chars-n-requires c = (c.requires.0, rw c.data-at.ensures (run_room (words_fit c.requires.1)))

pub put_string_row-requires : goal.put_string_row-requires
put_string_row-requires c =
    let q = rw c.data-at.ensures at c.put_chars-n.ensures in
    (rw c.data-at.ensures (row_room c.requires.1 c.put_chars-n.new.table), omega (arith, count_few c.requires.1 (run_put q)))

pub returns : goal.returns
returns c =
    let q = rw c.data-at.ensures at c.put_chars-n.ensures in
    let r = rw c.data-at.ensures at c.put_string_row.ensures in
    rw r.0 (string_put c.requires.1 (run_put q) r.1)
