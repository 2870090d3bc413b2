-- The worked examples hold, by computing. Assumes nothing.
use mathlib.Core.Path.{refl}
use Rattle.compare.specs.Differences.{changes}
use Rattle.compare.specs.Examples.{sheets, Hold}

pub sheets_hold : Hold sheets
unfolding sheets changes
sheets_hold = (refl, (refl, (refl, (refl, (refl, (refl, (refl, (refl, tt))))))))
