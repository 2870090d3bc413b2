-- `writer::normal_length` meets its contract. Assumes nothing.
use mathlib.Core.Path.{◌∙◌}
use Rattle.writer.proofs.TopLaws.{count_wrong, words_wrong, length_wrong, length_right}
use Rattle.writer.proofs.normal_length.Goals as goal
use Rattle.writer.proofs.normal_length.Goals.{then-found-items-via-then-found-items, then-found-items-via-else-found-items+then-found-data}

pub returns-then-found-items : goal.returns-then-found-items
returns-then-found-items c =
    let t = c.args.table in
    elim c.then-found-items.branch [
      | then-found-items-via-then-found-items w ↦ count_wrong _ t.in_order _ _ _ _ c.count.ensures c.in-Ok.ensures _ c.items.ensures w.if-found-items.true
      | then-found-items-via-else-found-items+then-found-data w ↦ words_wrong _ t.in_order _ _ _ _ c.count.ensures c.in-Ok.ensures _ w.data.ensures w.if-found-data.true
    ]

pub returns-then-found-gt-MOST_BYTES : goal.returns-then-found-gt-MOST_BYTES
returns-then-found-gt-MOST_BYTES c =
    length_wrong _ c.args.table.in_order _ _ _ _ c.count.ensures c.in-Ok.ensures (c.if-found-items.false ∙ c.items.ensures) (c.if-found-data.false ∙ c.data.ensures) c.if-found-gt-MOST_BYTES.true

pub returns-else-found-gt-MOST_BYTES : goal.returns-else-found-gt-MOST_BYTES
returns-else-found-gt-MOST_BYTES c =
    length_right _ c.args.table.in_order _ _ _ _ c.count.ensures c.in-Ok.ensures (c.if-found-items.false ∙ c.items.ensures) (c.if-found-data.false ∙ c.data.ensures) c.if-found-gt-MOST_BYTES.false
