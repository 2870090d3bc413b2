-- The worked examples hold, by computing. Assumes nothing.
use mathlib.Core.Path.{refl}
use Rattle.format.specs.Answers.{over}
use Rattle.salvage.specs.Mending.{change_words, salvaging}
use Rattle.salvage.specs.Examples.{damages, AllMended}

pub damages_mended : AllMended damages
unfolding damages salvaging over change_words
damages_mended =
    (refl, (refl, (refl, (refl, (refl, (refl, (refl, (refl, (refl, (refl, (refl, (refl, (refl, (refl, (refl, (refl, (refl, (refl, (refl, (refl, (refl, (refl, (refl, (refl, tt))))))))))))))))))))))))
