-- `Fault::further` meets its contract. Assumes nothing.
use mathlib.Core.Path.{refl}
use Rattle.format.specs.Refusals.{further}
use Rattle.format.proofs.fault.Fault.further.Goals as goal

pub returns : goal.returns
unfolding further
returns c = refl
