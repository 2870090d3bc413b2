-- Four stores write the header. Assumes nothing.
use Rattle.std.proofs.Common.{◌∙◌}
use Rattle.format.proofs.Over.{at_front, set_four}
use Rattle.fill.proofs.put_header.Goals as goal

pub returns : goal.returns
returns c = set_four 0 c.args.table.now _ _ _ _ c.requires.0 ∙ at_front _ _
