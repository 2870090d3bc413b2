-- `listing::rows::put_row` meets its contract: depth, kind, value and newline, one behind the other. Assumes nothing.
use Rattle.table.specs.Rows.{kind_at}
use Rattle.listing.specs.Puts.{Put}
use Rattle.listing.specs.RowTexts.{kind_word, row_text}
use Rattle.listing.proofs.Putting.{then, fits_first, fits_next}
use Rattle.listing.proofs.rows.put_row.Goals as goal

pub decimal-requires : goal.decimal-requires
unfolding row_text
decimal-requires c = fits_first _ c.requires.room

pub text-requires : goal.text-requires
unfolding row_text
text-requires c = rw (c.kind_text.ensures, c.kind-kind.ensures) (fits_first _ (fits_next c.decimal.ensures c.requires.room))

pub put_value-requires : goal.put_value-requires
unfolding row_text
put_value-requires c =
    let k : Put (kind_word (kind_at c.args.row.now.table.now c.args.row.now.p)) c.decimal.new.self c.text.new.self = rw (c.kind_text.ensures, c.kind-kind.ensures) at c.text.ensures in
    record { in_order = (c.requires.in_order, c.kind-kind.ensures); room = fits_first _ (fits_next k (fits_next c.decimal.ensures c.requires.room)) }

pub byte-requires : goal.byte-requires
unfolding row_text
byte-requires c =
    let k : Put (kind_word (kind_at c.args.row.now.table.now c.args.row.now.p)) c.decimal.new.self c.text.new.self = rw (c.kind_text.ensures, c.kind-kind.ensures) at c.text.ensures in
    fits_next c.put_value.ensures (fits_next k (fits_next c.decimal.ensures c.requires.room))

pub returns : goal.returns
unfolding row_text
returns c =
    let k : Put (kind_word (kind_at c.args.row.now.table.now c.args.row.now.p)) c.decimal.new.self c.text.new.self = rw (c.kind_text.ensures, c.kind-kind.ensures) at c.text.ensures in
    then c.decimal.ensures (then k (then c.put_value.ensures c.byte.ensures))
