-- `spells` meets its contract: a CHAR's type-byte, PADDING's or a REPEAT's. Assumes nothing.
use Rattle.std.proofs.Common.{sym, ◌∙◌, arith}
use Rattle.format.specs.Choice.{either}
use Rattle.fill.specs.Texts.{spells}
use Rattle.fill.proofs.StringLaws.{char_told, gap_told, repeat_told}
use Rattle.fill.proofs.text.spells.Goals as goal
use Rattle.fill.proofs.text.spells.Goals.{then-is, else-is}

pub returns-then-is-2 : goal.returns-then-is-2
unfolding spells either
returns-then-is-2 c =
    let h = char_told c.args.b c.is.ensures in
    elim c.if-is.branch [
      | then-is w ↦ rw (← h, w.if-is.true) c.if-is-2.true
      | else-is w ↦
          let g = gap_told c.args.b (omega arith) w.is-else-is.ensures in
          rw (← h, w.if-is.false, ← g, sym w.value-is ∙ c.if-is-2.true) c.if-is-2.true
    ]

pub returns-else-is-2 : goal.returns-else-is-2
unfolding spells either
returns-else-is-2 c =
    let h = char_told c.args.b c.is.ensures in
    elim c.if-is.branch [
      | then-is w ↦ absurd (let z = sym w.value-is ∙ c.if-is-2.false in cc)
      | else-is w ↦
          let g = gap_told c.args.b (omega arith) w.is-else-is.ensures in
          rw (← h, w.if-is.false, ← g, sym w.value-is ∙ c.if-is-2.false) (repeat_told c.args.b c.is-else-is-2.ensures)
    ]
