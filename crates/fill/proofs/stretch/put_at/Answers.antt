-- A row at the front of the part from there on. Assumes nothing.
use Rattle.format.proofs.Over.{lent}
use Rattle.fill.proofs.stretch.put_at.Goals as goal

pub returns : goal.returns
returns c = lent _ _ _ _ c.put_row.ensures
