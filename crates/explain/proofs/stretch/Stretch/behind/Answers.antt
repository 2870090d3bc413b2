-- `behind` meets its contract. Assumes nothing.
use mathlib.Core.Path.{refl}
use Rattle.explain.specs.Reasons.{between}
use Rattle.explain.proofs.stretch.Stretch.behind.Goals as goal

pub returns : goal.returns
unfolding between
returns c = refl
