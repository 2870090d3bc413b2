-- `compare::walk::same` meets its contract: what is joined tells of the words passed. Assumes nothing.
use native.Mathlib.Omega.{arith}
use Rattle.compare.proofs.WordLaws.{joined_on}
use Rattle.compare.proofs.walk.same.Goals as goal

pub loop-n-preserved : goal.loop-n-preserved
loop-n-preserved c = joined_on c.args.left.now c.args.right.now c.loop-n.n c.loop-n.joined (omega arith) c.requires c.loop-n.invariant
