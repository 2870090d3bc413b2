-- `size::long_size` meets its contract. Assumes nothing.
use mathlib.Core.Path.{refl, ◌∙◌}
use Rattle.format.specs.Numbers.{val}
use Rattle.wire.proofs.Sizes.{size_step}
use Rattle.wire.proofs.size.long_size.Goals as goal

pub loop-b-init : goal.loop-b-init
loop-b-init c = (unfold val in refl)

pub loop-b-preserved : goal.loop-b-preserved
loop-b-preserved c =
    c.capped-n.ensures ∙ size_step _ c.loop-b.b-index c.loop-b.n c.from.result c.loop-b-test.true c.loop-b.invariant c.from.ensures
