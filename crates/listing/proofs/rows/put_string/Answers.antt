-- `listing::rows::put_string` meets its contract: the number of characters, and then their codes. Assumes nothing.
use Rattle.listing.proofs.Putting.{then, fits_first, fits_next}
use Rattle.listing.proofs.CodeLines.{string_value}
use Rattle.listing.proofs.rows.put_string.Goals as goal

pub decimal-requires : goal.decimal-requires
decimal-requires c = rw c.a.ensures (fits_first _ (rw (string_value _ _ (c.requires.string.0.text c.requires.string.1)) at c.requires.room))

pub put_codes-requires : goal.put_codes-requires
put_codes-requires c =
    let d = rw c.a.ensures at c.decimal.ensures in
    record { string = c.requires.string; room = fits_next d (rw (string_value _ _ (c.requires.string.0.text c.requires.string.1)) at c.requires.room) }

pub returns : goal.returns
returns c =
    rw (string_value _ _ (c.requires.string.0.text c.requires.string.1)) (then (rw c.a.ensures at c.decimal.ensures) c.put_codes.ensures)
