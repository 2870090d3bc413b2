-- `listing::rows::put_bits` meets its contract: the number of bits, then nothing, or a space and the bits. Assumes nothing.
use native.Mathlib.Omega.{arith}
use Rattle.listing.proofs.Putting.{then, fits_first, fits_byte, fits_next}
use Rattle.listing.proofs.RowLines.{bits_row, value_is, bits_none, bits_some}
use Rattle.listing.proofs.rows.put_bits.Goals as goal

pub decimal-requires : goal.decimal-requires
decimal-requires c = rw c.a-bits.ensures (fits_first _ (rw (value_is _ _ (bits_row _ _ c.requires.bits.0 c.requires.bits.1)) at c.requires.room))

pub byte-requires : goal.byte-requires
byte-requires c =
    let d = rw c.a-bits.ensures at c.decimal.ensures in
    fits_byte (fits_next d (rw (bits_some _ _ (bits_row _ _ c.requires.bits.0 c.requires.bits.1) (omega arith)) at c.requires.room))

pub put_stream-requires : goal.put_stream-requires
put_stream-requires c =
    let d = rw c.a-bits.ensures at c.decimal.ensures in
    record {
      bits = c.requires.bits;
      room = fits_next c.byte.ensures (fits_next d (rw (bits_some _ _ (bits_row _ _ c.requires.bits.0 c.requires.bits.1) (omega arith)) at c.requires.room));
    }

pub returns-then-bits-gt0 : goal.returns-then-bits-gt0
returns-then-bits-gt0 c =
    let d = rw c.a-bits.ensures at c.decimal.ensures in
    rw (bits_some _ _ (bits_row _ _ c.requires.bits.0 c.requires.bits.1) (omega arith)) (then d (then c.byte.ensures c.put_stream.ensures))

pub returns-else-bits-gt0 : goal.returns-else-bits-gt0
returns-else-bits-gt0 c =
    let d = rw c.a-bits.ensures at c.decimal.ensures in
    rw (bits_none _ _ (bits_row _ _ c.requires.bits.0 c.requires.bits.1) (omega arith)) d
