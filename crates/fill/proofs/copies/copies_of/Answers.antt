-- A REPEAT's elements stand as often as its count says, any other container's once. Assumes nothing.
use Rattle.std.proofs.Common.{sym, ap}
use Rattle.fill.specs.Containers.{copies_of}
use Rattle.fill.proofs.ContainerLaws.{is_group}
use Rattle.fill.proofs.copies.copies_of.Goals as goal

pub returns-in-Repeat : goal.returns-in-Repeat
unfolding copies_of
returns-in-Repeat c = sym (ap copies_of c.in-Repeat.is)

pub returns-in_default : goal.returns-in_default
returns-in_default c = sym (is_group c.args.w c.in_default.not-Repeat).0
