-- `listing::list` meets its contract: the text is that of the reading, whatever words the table held before. Assumes nothing.
use mathlib.Core.Path.{ap, ◌∙◌}
use native.Mathlib.Omega.{arith}
use Rattle.format.proofs.Digits.{bytes_of}
use Rattle.message.specs.Told.{read_told}
use Rattle.listing.specs.Lines.{refused_text}
use Rattle.listing.proofs.ReadTexts.{long_text, long_table, shown, read_table, refused_text_lem, accepts}
use Rattle.listing.proofs.list.Goals as goal

pub returns-then-message-gt-MOST_BYTES : goal.returns-then-message-gt-MOST_BYTES
returns-then-message-gt-MOST_BYTES c =
    let h = c.if-message-gt-MOST_BYTES.true in
    let r = shown c.args.out.now (ap (λ n. refused_text n 0) c.number.ensures ∙ long_text c.args.message.now h) (c.refused.ensures.value, c.refused.ensures.out_after) (long_table c.args.message.now c.args.table.now h) in
    record { value = r.0; out_after = r.1.0; table_after = r.1.1 }

pub accepted-requires : goal.accepted-requires
accepted-requires c =
    let m = c.args.message.now in
    let b = bytes_of m (λ i. omega (arith, c.type_inv.message i)) in
    let k = accepts m c.args.table.now c.if-message-gt-MOST_BYTES.false c.requires.0 (read_told c.read-answer.result c.read-answer.new.table) c.read-answer.ensures b c.if-answer-ne0.false in
    (k.can, omega (arith, c.requires.1))

pub returns : goal.returns
returns c =
    let m = c.args.message.now in
    let t = c.args.table.now in
    let h = c.if-message-gt-MOST_BYTES.false in
    let b = bytes_of m (λ i. omega (arith, c.type_inv.message i)) in
    let k = accepts m t h c.requires.0 (read_told c.read-answer.result c.read-answer.new.table) c.read-answer.ensures b c.if-answer-ne0.false in
    let r = shown c.args.out.now k.text (c.accepted.ensures.value, c.accepted.ensures.out_after) (read_table m t h c.requires.0 (read_told c.read-answer.result c.read-answer.new.table) c.read-answer.ensures) in
    record { value = r.0; out_after = r.1.0; table_after = r.1.1 }

pub returns-then-answer-ne0 : goal.returns-then-answer-ne0
returns-then-answer-ne0 c =
    let m = c.args.message.now in
    let t = c.args.table.now in
    let h = c.if-message-gt-MOST_BYTES.false in
    let e = refused_text_lem m t h c.requires.0 (read_told c.read-answer.result c.read-answer.new.table) c.read-answer.ensures c.if-answer-ne0.true in
    let r = shown c.args.out.now e (c.refused-then-answer-ne0.ensures.value, c.refused-then-answer-ne0.ensures.out_after) (read_table m t h c.requires.0 (read_told c.read-answer.result c.read-answer.new.table) c.read-answer.ensures) in
    record { value = r.0; out_after = r.1.0; table_after = r.1.1 }
