-- The worked examples hold, by computing. Assumes nothing.
use mathlib.Core.Path.{refl}
use Rattle.format.specs.Answers.{over}
use Rattle.explain.specs.Explanations.{explaining}
use Rattle.explain.specs.Examples.{cases, AllExplained}

pub cases_explained : AllExplained cases
unfolding cases explaining over
cases_explained =
    (refl, (refl, (refl, (refl, (refl, (refl, (refl, (refl, (refl, (refl, (refl, (refl, (refl, (refl, (refl, (refl, (refl, (refl, (refl, (refl, (refl, (refl, (refl, (refl, (refl, (refl, (refl, (refl, (refl, (refl, (refl, (refl, (refl, (refl, (refl, (refl, (refl, (refl, (refl, (refl, (refl, (refl, (refl, (refl, tt))))))))))))))))))))))))))))))))))))))))))))
