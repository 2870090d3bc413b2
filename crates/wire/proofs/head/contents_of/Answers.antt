-- `head::contents_of` meets its contract. Assumes nothing.
use native.Mathlib.Omega.{arith}
use Rattle.wire.proofs.HeadLaws.{contents_deep, contents_shallow}
use Rattle.wire.proofs.head.contents_of.Goals as goal

pub returns-then-depth-ge-DEEPEST : goal.returns-then-depth-ge-DEEPEST
returns-then-depth-ge-DEEPEST c = contents_deep c.args.depth c.args.s.now c.here.result c.here.ensures (omega arith)

pub returns : goal.returns
returns c = contents_shallow c.args.depth c.args.s.now c.sized.result (omega arith) c.sized.ensures
