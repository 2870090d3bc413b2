-- `size::extent_at` meets its contract. Assumes nothing.
use Prim.Native.Nat.{◌-◌}
use lib.ListN.{length}
use native.Mathlib.Omega.{arith}
use Rattle.format.proofs.Choices.{if_lt_yes, if_lt_no}
use Rattle.wire.specs.Extents.{extent_at}
use mathlib.Core.Path.{sym}
use Rattle.wire.proofs.size.extent_at.Goals as goal

pub returns-then-there-n : goal.returns-then-there-n
unfolding extent_at
returns-then-there-n c = sym (if_lt_yes _ _ _ _ c.if-there-n.true)

pub returns : goal.returns
unfolding extent_at
returns c = sym (if_lt_no (length c.args.s.now - c.args.h) c.args.n _ _ (omega arith))
