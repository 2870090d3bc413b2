-- `measure::rows::is_one_edt` meets its contract. Assumes nothing.
use native.Mathlib.Omega.{arith}
use Rattle.measure.proofs.TableSheets.{header_room, rows_room}
use Rattle.measure.proofs.rows.is_one_edt.Goals as goal

pub bounds-table-0 : goal.bounds-table-0
bounds-table-0 c = omega (arith, header_room _ c.requires)

pub row_at-row-requires : goal.row_at-row-requires
row_at-row-requires c = omega (arith, rows_room _ c.requires c.if-table-ne-ROWS.false)
