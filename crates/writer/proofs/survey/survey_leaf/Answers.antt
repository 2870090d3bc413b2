-- `writer::survey::survey_leaf` meets its contract. Assumes nothing.
use mathlib.Core.Path.{sym, ◌∙◌}
use native.Mathlib.Omega.{arith}
use Rattle.format.specs.Bits.{words_for}
use Rattle.writer.proofs.Surveying.{survey_at, plain_told, bits_passed, no_bits}
use Rattle.writer.proofs.survey.survey_leaf.Goals as goal

pub returns-in_err-used : goal.returns-in_err-used
returns-in_err-used c =
    let row = c.row-row.ensures in
    rw c.from_residual.ensures (no_bits (survey_at c.args.at) (sym row.kind ∙ c.if-row-eq-BITS.true) (rw (row.a, row.b) at c.in_err-used.ensures))

pub bits_length-requires : goal.bits_length-requires
unfolding words_for
bits_length-requires c = omega (arith, c.in_ok-used.ensures.1, c.in_ok-used.ensures.2, c.args.at.table.in_order.little)

pub returns-then-row-eq-BITS : goal.returns-then-row-eq-BITS
returns-then-row-eq-BITS c =
    let row = c.row-row.ensures in
    bits_passed (survey_at c.args.at) _ _ (sym row.kind ∙ c.if-row-eq-BITS.true) (rw (row.a, row.b) at c.in_ok-used.ensures) (rw row.a at c.bits_length.ensures)

pub returns : goal.returns
returns c =
    let row = c.row-row.ensures in
    rw c.then_some.ensures
    (plain_told (survey_at c.args.at) _ c.requires.0 c.requires.1 (λ z. c.if-row-eq-BITS.false (row.kind ∙ z)) (rw (row.kind, row.a, row.b) at c.plain_ok.ensures))
