-- The units by the code's names. No meaning cites this file: those have the two scales.
use Rattle.std.specs.Prelude.{ℕ, ◌≡◌, ◌<◌, Result, Ok, Err}
use Rattle.measure.specs.Sheets.{Scale, tenths, eighths, scale_code}
use Rattle.measure.specs.declared.unit.Unit.{Unit}
use Rattle.measure.specs.declared.unit.Unit.TheVariants.{Tenths, Eighths}
use Rattle.measure.specs.declared.unit.UnknownUnit.{UnknownUnit}

abbrev pub scale_of : Unit → Scale
scale_of Tenths = tenths
scale_of Eighths = eighths

-- the unit that has this code, or none has
abbrev pub UnitOf : ℕ → Result Unit UnknownUnit → Type 0
UnitOf n (Ok u) = n ≡ scale_code (scale_of u)
UnitOf n (Err e) = (e.0 ≡ n) × (1 < n)
