-- `Extent::contents` meets its contract. Assumes nothing.
use Rattle.format.specs.Objects.{contents}
use Rattle.format.proofs.Parts.{middle_part}
use Rattle.wire.proofs.size.Extent.contents.Goals as goal

pub returns : goal.returns
unfolding contents
returns c = middle_part c.args.s.now c.args.self.start c.args.self.size
