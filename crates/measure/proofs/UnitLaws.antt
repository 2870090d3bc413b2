-- The units by the code's names, and the scales of the meanings. Assumes nothing.
use Prim.Native.Nat.{ℕ, ◌<◌}
use mathlib.Core.Path.{◌≡◌, refl, sym}
use native.Mathlib.Omega.{arith}
use lib.Dec.{ltb}
use Rattle.std.specs.Prelude.{Result, Ok, Err}
use Rattle.std.specs.Result.{is_ok, IsOk}
use Rattle.format.proofs.Choices.{lt_true, lt_false, if_eq_yes, if_eq_no}
use Rattle.measure.specs.Sheets.{scale_code}
use Rattle.measure.specs.SheetRows.{scale_at}
use Rattle.measure.specs.Units.{scale_of, UnitOf}
use Rattle.measure.specs.declared.unit.Unit.{Unit}
use Rattle.measure.specs.declared.unit.Unit.TheVariants.{Tenths, Eighths}
use Rattle.measure.specs.declared.unit.UnknownUnit.{UnknownUnit}

pub unit_tested : (n : ℕ) (r : Result Unit UnknownUnit) → UnitOf n r → is_ok r ≡ ltb n 2
unfolding scale_code
unit_tested n (Ok Tenths) e = sym (lt_true n 2 (omega arith))
unit_tested n (Ok Eighths) e = sym (lt_true n 2 (omega arith))
unit_tested n (Err o) e = sym (lt_false n 2 (omega arith))

pub unit_scale : (n : ℕ) (u : Unit) → n ≡ scale_code (scale_of u) → scale_of u ≡ scale_at n
unfolding scale_code scale_at
unit_scale n Tenths e = sym (if_eq_yes n 0 _ _ e)
unit_scale n Eighths e = sym (if_eq_no n 0 _ _ (λ z. omega arith))

pub unit_known : (n : ℕ) (r : Result Unit UnknownUnit) → UnitOf n r → n < 2 → IsOk r
unit_known n (Ok u) e h = refl
unit_known n (Err o) e h = absurd (omega arith)
