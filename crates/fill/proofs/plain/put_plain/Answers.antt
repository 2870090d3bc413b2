-- Each head writes the rows that its items have. Assumes nothing.
use Rattle.format.proofs.Over.{over_none}
use Rattle.std.proofs.Common.{refl, sym, ap, ◌∙◌, arith}
use Rattle.format.specs.Answers.{over}
use Rattle.fill.specs.Plain.{plain_rows, plain_placed}
use Rattle.fill.proofs.LaidLaws.{nothing}
use Rattle.fill.proofs.PlainLaws.{BitsHead, bits_head, no_rows}
use Rattle.fill.proofs.plain.put_plain.Goals as goal
use Rattle.fill.proofs.plain.put_plain.Goals.{In-Sbits}

pub returns-in_default : goal.returns-in_default
returns-in_default c =
    let t = c.args.table.now in
    let i = no_rows c.args.s.now c.args.h c.in_default.not-Row c.in_default.not-Sbits c.in_default.not-Lbits in
    (rw (c.past-in_default.ensures, nothing _ c.default.ensures) (sym i.0), sym (ap (λ l. over l t) (i.1 c.args.base) ∙ over_none t))

pub put_row-requires : goal.put_row-requires
put_row-requires c = unfold plain_rows in rw c.in-Row.is at c.requires.2

-- a bit string
bits_at : (c : In-Sbits) → BitsHead c.args.s.now c.args.h c.in-Sbits.n c.in-Sbits.u
bits_at c = bits_head _ _ _ _ c.in-Sbits.is

pub put_row-requires-in-Sbits : goal.put_row-requires-in-Sbits
put_row-requires-in-Sbits c = let b = bits_at (goal.at.put_row-requires-in-Sbits c).In-Sbits in rw b.rows_are at c.requires.2

pub overflow_add-n : goal.overflow_add-n
overflow_add-n c =
    let p = c.requires in
    omega (arith, (bits_at (goal.at.overflow_add-n c).In-Sbits).few p.1 p.0)

pub returns-in-Row : goal.returns-in-Row
returns-in-Row c = unfold plain_rows plain_placed in rw (c.in-Row.is, c.past.ensures, c.item.ensures) (refl, c.put_row.ensures)

pub returns-in-Sbits : goal.returns-in-Sbits
returns-in-Sbits c =
    let b = bits_at (goal.at.returns-in-Sbits c).In-Sbits in
    rw (c.past-in-Sbits.ensures, c.item-in-Sbits.ensures, b.rows_are c.args.base) (sym b.placed_is, c.put_row-in-Sbits.ensures)
