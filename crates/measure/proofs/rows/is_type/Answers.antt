-- `measure::rows::is_type` meets its contract. Assumes nothing.
use native.Mathlib.Omega.{arith}
use Rattle.measure.proofs.TableSheets.{rows_room}
use Rattle.measure.proofs.rows.is_type.Goals as goal

pub is_int-requires : goal.is_int-requires
is_int-requires c = omega (arith, rows_room _ c.requires.0 c.requires.1)
