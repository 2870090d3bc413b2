-- `put_places` meets its contract. Assumes nothing.
use native.Mathlib.Omega.{arith}
use mathlib.Core.Path.{refl, sym, ◌∙◌}
use lib.ListN.{length-set}
use Rattle.format.proofs.Over.{over_none}
use Rattle.explain.proofs.Listing.{place_next}
use Rattle.explain.proofs.put_places.Goals as goal

pub loop-i-init : goal.loop-i-init
loop-i-init c = (sym (over_none _), refl)

pub loop-i-preserved : goal.loop-i-preserved
loop-i-preserved c = (
  place_next _ _ _ _ (omega arith) (omega (arith, c.requires)) c.loop-i.invariant.0,
  length-set c.loop-i.list c.loop-i.i _ ∙ c.loop-i.invariant.1,
)
