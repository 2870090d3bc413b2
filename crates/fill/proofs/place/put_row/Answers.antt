-- Three stores write a row. Assumes nothing.
use Rattle.std.proofs.Common.{◌∙◌}
use Rattle.format.proofs.Over.{at_front, set_three}
use Rattle.fill.proofs.place.put_row.Goals as goal

pub returns : goal.returns
returns c = rw c.word.ensures (set_three 0 _ _ _ _ c.requires ∙ at_front _ _)
