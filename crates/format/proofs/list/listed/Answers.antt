-- `list::listed` is the paper's class at each of the 256 type-bytes. Assumes nothing.
use borrow.Author.Rules.{rules}
use Rattle.format.proofs.TreeLaws.{classes, listed_class}
use Rattle.format.proofs.list.listed.Goals as goal

pub returns : goal.returns
unfolding classes
returns c = listed_class c.args.b (search rules)
