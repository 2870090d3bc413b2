-- `listing::rows::put_stream` meets its contract: the bits of the data words are those of the BITS. Assumes nothing.
use Rattle.listing.proofs.RowLines.{bits_row, words_in, bits_in, stream_is}
use Rattle.listing.proofs.rows.put_stream.Goals as goal

pub data-requires-clause-within : goal.data-requires-clause-within
data-requires-clause-within c = words_in _ _ (bits_row _ _ c.requires.bits.0 c.requires.bits.1)

pub bits-requires-clause-enough : goal.bits-requires-clause-enough
bits-requires-clause-enough c = rw (c.data.ensures, c.a.ensures) (bits_in _ _ (bits_row _ _ c.requires.bits.0 c.requires.bits.1))

pub bits-requires-clause-room : goal.bits-requires-clause-room
bits-requires-clause-room c = rw (c.data.ensures, c.a.ensures) (rw (stream_is _ _ (bits_row _ _ c.requires.bits.0 c.requires.bits.1)) at c.requires.room)

pub returns : goal.returns
returns c = rw (stream_is _ _ (bits_row _ _ c.requires.bits.0 c.requires.bits.1)) (rw (c.data.ensures, c.a.ensures) at c.bits.ensures)
