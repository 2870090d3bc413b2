-- `read` meets its contract. Assumes nothing.
use mathlib.Core.Path.{ap, ◌∙◌}
use native.Mathlib.Omega.{arith}
use Rattle.format.specs.Messages.{outcome}
use Rattle.message.specs.Told.{read_told}
use Rattle.message.proofs.ReadCases.{read_long, read_short, read_refused, read_room, read_well, roomy, few}
use Rattle.message.proofs.read.Goals as goal

pub returns-then-message-gt-MOST_BYTES : goal.returns-then-message-gt-MOST_BYTES
returns-then-message-gt-MOST_BYTES c =
    ap (λ r. read_told r c.args.table.now) c.refused.ensures ∙ read_long c.args.message.now c.args.table.now c.if-message-gt-MOST_BYTES.true

pub returns-in-Err : goal.returns-in-Err
returns-in-Err c =
    ap (λ r. read_told r c.args.table.now) c.from.ensures
    ∙ read_refused (outcome c.args.message.now) c.args.table.now _ c.in-Err.ensures
    ∙ read_short c.args.message.now c.args.table.now (omega (arith, c.if-message-gt-MOST_BYTES.false))

pub returns-then-table-needed : goal.returns-then-table-needed
returns-then-table-needed c =
    let k = few c.in-Ok.sum _ c.too_many-many.ensures c.if-many.false in
    ap (λ r. read_told r c.args.table.now) c.refused-then-table-needed.ensures
    ∙ read_room (outcome c.args.message.now) c.args.table.now c.in-Ok.sum c.in-Ok.ensures k.0 k.1 c.if-table-needed.true
    ∙ read_short c.args.message.now c.args.table.now (omega (arith, c.if-message-gt-MOST_BYTES.false))

pub fill-requires : goal.fill-requires
fill-requires c =
    let k = few c.in-Ok.sum _ c.too_many-many.ensures c.if-many.false in
    (omega (arith, c.if-message-gt-MOST_BYTES.false), roomy (outcome c.args.message.now) c.in-Ok.sum _ c.in-Ok.ensures k.0 k.1 (omega (arith, c.if-table-needed.false)))

pub returns-else-table-needed : goal.returns-else-table-needed
returns-else-table-needed c =
    let k = few c.in-Ok.sum _ c.too_many-many.ensures c.if-many.false in
    ap (λ r. read_told r c.fill.new.table) c.accepted.ensures
    ∙ ap (read_told _) c.fill.ensures
    ∙ read_well (outcome c.args.message.now) c.args.table.now c.in-Ok.sum c.in-Ok.ensures k.0 k.1 (omega (arith, c.if-table-needed.false))
    ∙ read_short c.args.message.now c.args.table.now (omega (arith, c.if-message-gt-MOST_BYTES.false))
