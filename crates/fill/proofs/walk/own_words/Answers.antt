-- A REPEAT has no row of its own, any other container has one. Assumes nothing.
use Rattle.std.proofs.Common.{sym, ap}
use Rattle.fill.specs.Containers.{own_words}
use Rattle.fill.proofs.ContainerLaws.{is_group}
use Rattle.fill.proofs.walk.own_words.Goals as goal

pub returns-in-Repeat : goal.returns-in-Repeat
unfolding own_words
returns-in-Repeat c = sym (ap own_words c.in-Repeat.is)

pub returns-in_default : goal.returns-in_default
returns-in_default c = sym (is_group c.args.w c.in_default.not-Repeat).1
