-- `walk::copy_to` meets its contract. Assumes nothing.
use native.Mathlib.Omega.{arith}
use mathlib.Core.Path.{refl}
use Rattle.salvage.proofs.Copying.{copied_start, copied_step}
use Rattle.salvage.proofs.walk.copy_to.Goals as goal

pub loop-i-preserved : goal.loop-i-preserved
loop-i-preserved c = copied_step _ _ _ c.loop-i.output c.loop-i.i _ c.requires (omega (arith, c.loop-i-test.true)) c.loop-i.invariant refl

pub loop-i-init : goal.loop-i-init
loop-i-init c = copied_start _ _ _
