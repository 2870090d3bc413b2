-- `measure::read` meets its contract. Assumes nothing.
use mathlib.Core.Path.{ap, ◌∙◌}
use native.Mathlib.Omega.{arith}
use Rattle.format.specs.Numbers.{Bytes}
use Rattle.format.proofs.Digits.{bytes_of}
use Rattle.message.specs.Told.{read_told}
use Rattle.measure.specs.Told.{measure_told}
use Rattle.measure.proofs.SheetCases.{read_passed, read_some, read_judged}
use Rattle.measure.proofs.read.Goals as goal
use Rattle.measure.proofs.read.Goals.{After-read-reading}

-- what is lent as a message is bytes
bytes : (c : After-read-reading) → Bytes c.args.message.now
bytes c = bytes_of c.args.message.now (λ i. omega (arith, c.type_inv.message i))

pub returns-then-reading-ne0 : goal.returns-then-reading-ne0
returns-then-reading-ne0 c =
    let t = c.read-reading.new.table in
    ap (λ r. measure_told r t) c.into.ensures
    ∙ read_passed c.args.message.now c.args.table.now (read_told c.read-reading.result t) c.read-reading.ensures c.if-reading-ne0.true

pub judged-requires : goal.judged-requires
judged-requires c =
    read_some c.args.message.now c.args.table.now (bytes (goal.at.judged-requires c).After-read-reading) (read_told c.read-reading.result c.read-reading.new.table) c.read-reading.ensures
    c.if-reading-ne0.false

pub returns-in-Ok : goal.returns-in-Ok
returns-in-Ok c =
    c.in-Ok.ensures
    ∙ read_judged c.args.message.now c.args.table.now (bytes (goal.at.returns-in-Ok c).After-read-reading) (read_told c.read-reading.result c.read-reading.new.table)
    c.read-reading.ensures c.if-reading-ne0.false

pub returns-in-Err : goal.returns-in-Err
returns-in-Err c =
    let t = c.read-reading.new.table in
    ap (λ r. measure_told r t) c.into-in-Err.ensures ∙ c.in-Err.ensures
    ∙ read_judged c.args.message.now c.args.table.now (bytes (goal.at.returns-in-Err c).After-read-reading) (read_told c.read-reading.result t)
    c.read-reading.ensures c.if-reading-ne0.false
