-- `measure::rows::are_elements` meets its contract. Assumes nothing.
use native.Mathlib.Omega.{arith}
use Rattle.measure.proofs.TableSheets.{rows_room}
use Rattle.measure.proofs.rows.are_elements.Goals as goal

pub is_int-requires : goal.is_int-requires
is_int-requires c = omega (arith, rows_room _ c.requires.0 c.requires.1)

pub row_at-requires : goal.row_at-requires
row_at-requires c = omega (arith, rows_room _ c.requires.0 c.requires.1)

pub is_unit-requires : goal.is_unit-requires
is_unit-requires c = rows_room _ c.requires.0 c.requires.1

pub are_figures-requires : goal.are_figures-requires
are_figures-requires c = rows_room _ c.requires.0 c.requires.1
