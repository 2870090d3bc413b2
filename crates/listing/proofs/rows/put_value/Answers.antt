-- `listing::rows::put_value` meets its contract: the column of each kind. Assumes nothing.
use native.Mathlib.Omega.{arith}
use Rattle.listing.proofs.Putting.{nothing}
use Rattle.listing.proofs.RowLines.{int_row, bits_value, code_row, empty_row, group_row, text_row}
use Rattle.listing.proofs.rows.put_value.Goals as goal

pub signed-requires : goal.signed-requires
signed-requires c = rw (c.b.ensures, ← int_row c.args.row.now.table.now c.args.row.now.p c.args.kind c.requires.in_order.1 c.in-Int.is) c.requires.room

pub decimal-requires : goal.decimal-requires
decimal-requires c = rw (c.b-in-Char.ensures, ← code_row c.args.row.now.table.now c.args.row.now.p c.args.kind c.requires.in_order.1 c.requires.in_order.0 c.in-Char.is) c.requires.room

pub put_bits-requires-clause-room : goal.put_bits-requires-clause-room
put_bits-requires-clause-room c = rw (bits_value c.args.row.now.table.now c.args.row.now.p c.args.kind c.requires.in_order.1 c.in-Bits.is) at c.requires.room

pub decimal-requires-in-Struc : goal.decimal-requires-in-Struc
decimal-requires-in-Struc c = rw (c.a.ensures, ← group_row c.args.row.now.table.now c.args.row.now.p c.args.kind c.requires.in_order.1 c.in-Struc.is) c.requires.room

pub put_string-requires-clause-room : goal.put_string-requires-clause-room
put_string-requires-clause-room c = rw (text_row c.args.row.now.table.now c.args.row.now.p c.args.kind c.requires.in_order.1 c.in-String.is) at c.requires.room

pub returns-in-Int : goal.returns-in-Int
returns-in-Int c = rw (int_row c.args.row.now.table.now c.args.row.now.p c.args.kind c.requires.in_order.1 c.in-Int.is, ← c.b.ensures) c.signed.ensures

pub returns-in-Bits : goal.returns-in-Bits
returns-in-Bits c = rw (bits_value c.args.row.now.table.now c.args.row.now.p c.args.kind c.requires.in_order.1 c.in-Bits.is) c.put_bits.ensures

pub returns-in-Char : goal.returns-in-Char
returns-in-Char c = rw (code_row c.args.row.now.table.now c.args.row.now.p c.args.kind c.requires.in_order.1 c.requires.in_order.0 c.in-Char.is, ← c.b-in-Char.ensures) c.decimal.ensures

pub returns-in-Empty : goal.returns-in-Empty
returns-in-Empty c =
    let e = empty_row c.args.row.now.table.now c.args.row.now.p c.args.kind c.requires.in_order.1 c.requires.in_order.0 c.in-Empty.is in
    rw e (nothing c.args.out.now (omega (arith, c.requires.room.room)))

pub returns-in-Struc : goal.returns-in-Struc
returns-in-Struc c = rw (group_row c.args.row.now.table.now c.args.row.now.p c.args.kind c.requires.in_order.1 c.in-Struc.is, ← c.a.ensures) c.decimal-in-Struc.ensures

pub returns-in-String : goal.returns-in-String
returns-in-String c = rw (text_row c.args.row.now.table.now c.args.row.now.p c.args.kind c.requires.in_order.1 c.in-String.is) c.put_string.ensures
