-- `is_group` meets its contract: an EDT and a REPEAT are never strings. Assumes nothing.
use Rattle.std.proofs.Common.{sym}
use Rattle.fill.proofs.TryLaws.{group_wrap, other_wrap}
use Rattle.fill.proofs.tries.is_group.Goals as goal

pub returns-in-Struc : goal.returns-in-Struc
returns-in-Struc c = sym (group_wrap c.args.w c.in-Struc.is)

pub returns-in_default : goal.returns-in_default
returns-in_default c = sym (other_wrap c.args.w c.in_default.not-Struc c.in_default.not-Ustruc)
