-- `put_bytes` meets its contract: the codes go where the data words go on, and the row to the front. Assumes nothing.
use Rattle.fill.proofs.TextLaws.{words_fit, string_put, bytes_room, bytes_put}
use Rattle.fill.proofs.text.put_bytes.Goals as goal

pub put_low-requires : goal.put_low-requires
put_low-requires c = rw c.data-at.ensures (bytes_room (words_fit c.requires))

pub returns : goal.returns
returns c =
    let q = rw c.data-at.ensures at c.put_low.ensures in
    let r = rw c.data-at.ensures at c.put_string_row.ensures in
    rw r.0 (string_put c.requires (bytes_put q) r.1)
