-- An EDT has one kind of row, a STRUC and a USTRUC have another. Assumes nothing.
use Rattle.std.proofs.Common.{sym, ap}
use Rattle.fill.specs.Containers.{kind_of}
use Rattle.fill.proofs.ContainerLaws.{other_kind}
use Rattle.fill.proofs.walk.kind_of.Goals as goal

pub returns-in-Edt : goal.returns-in-Edt
unfolding kind_of
returns-in-Edt c = sym (ap kind_of c.in-Edt.is)

pub returns-in_default : goal.returns-in_default
returns-in_default c = sym (other_kind c.args.w c.in_default.not-Edt)
