-- `tree::ones_of` counts the ones. Assumes nothing.
use borrow.Author.Rules.{rules}
use Rattle.format.proofs.OnesLaws.{ones_zeros}
use Rattle.format.proofs.tree.ones_of.Goals as goal

pub returns : goal.returns
returns c = ones_zeros c.args.b (search rules)
