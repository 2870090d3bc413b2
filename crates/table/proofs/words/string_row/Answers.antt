-- `table::words::string_row` meets its contract. Assumes nothing.
use native.Mathlib.Omega.{arith}
use Rattle.table.proofs.CodeLaws.{text_low}
use Rattle.table.proofs.words.string_row.Goals as goal

pub returns : goal.returns
returns c =
    text_low c.args.table.words.now c.args.base c.args.count c.args.first c.words_for-used.result _ _ _ c.args.table.in_order (omega (arith, c.data_start.ensures)) c.bits_stand.ensures.value c.if-not-bits_stand.false
    c.bits_stand.ensures.fits c.words_for-used.ensures c.low_words.ensures c.if-not-low_words.false
