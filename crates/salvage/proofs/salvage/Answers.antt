-- `salvage` meets its contract. Assumes nothing.
use mathlib.Core.Path.{ap, ◌∙◌}
use Rattle.salvage.specs.Told.{salvage_told}
use Rattle.salvage.proofs.Answering.{answer_long, answer_output, answer_list, answer_many, answer_done, entries_are, room}
use Rattle.salvage.proofs.Verdicts.{few}
use Rattle.salvage.proofs.salvage.Goals as goal

pub returns-then-message-gt-MOST_BYTES : goal.returns-then-message-gt-MOST_BYTES
returns-then-message-gt-MOST_BYTES c =
    ap (λ r. salvage_told r c.args.output.now c.args.list.now) c.refused.ensures
    ∙ answer_long c.args.message.now c.args.output.now c.args.list.now c.if-message-gt-MOST_BYTES.true

pub returns-then-output-m : goal.returns-then-output-m
returns-then-output-m c =
    ap (λ r. salvage_told r c.args.output.now c.args.list.now) c.refused-then-output-m.ensures
    ∙ answer_output c.args.message.now c.args.output.now c.args.list.now c.if-message-gt-MOST_BYTES.false c.measured-m.result c.measured-m.ensures.0
    c.if-output-m.true

pub returns-then-list-m : goal.returns-then-list-m
returns-then-list-m c =
    ap (λ r. salvage_told r c.args.output.now c.args.list.now) c.refused-then-list-m.ensures
    ∙ answer_list c.args.message.now c.args.output.now c.args.list.now c.if-message-gt-MOST_BYTES.false c.measured-m.result c.measured-m.ensures.0
    c.if-output-m.false c.if-list-m.true

pub returns-then-too_many : goal.returns-then-too_many
returns-then-too_many c =
    ap (λ r. salvage_told r c.args.output.now c.args.list.now) c.refused-then-too_many.ensures
    ∙ answer_many c.args.message.now c.args.output.now c.args.list.now c.if-message-gt-MOST_BYTES.false c.measured-m.result c.measured-m.ensures.0
    c.if-output-m.false c.if-list-m.false (c.too_many.ensures.0 c.if-too_many.true)

pub mend-requires-clause-has_room : goal.mend-requires-clause-has_room
mend-requires-clause-has_room c = (
  room c.args.message.now c.args.output.now c.args.list.now c.if-message-gt-MOST_BYTES.false c.measured-m.result c.measured-m.ensures.0
      c.if-output-m.false c.if-list-m.false,
  entries_are c.args.message.now c.args.output.now c.args.list.now c.if-message-gt-MOST_BYTES.false c.measured-m.result c.measured-m.ensures.0,
)

pub returns : goal.returns
returns c =
    answer_done c.args.message.now c.args.output.now c.args.list.now c.if-message-gt-MOST_BYTES.false c.measured-m.result c.measured-m.ensures.0
    c.if-output-m.false c.if-list-m.false (few _ _ _ c.too_many.ensures c.if-too_many.false) _ _ c.mend.ensures.output_after c.mend.ensures.list_after
