-- `told` meets its contract. Assumes nothing.
use mathlib.Core.Path.{refl}
use Rattle.explain.specs.Told.{told_of}
use Rattle.explain.proofs.told.Goals as goal

pub returns : goal.returns
unfolding told_of
returns c = rw c.code-code.ensures refl
