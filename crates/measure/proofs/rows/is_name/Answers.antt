-- `measure::rows::is_name` meets its contract. Assumes nothing.
use mathlib.Core.Path.{sym, ◌∙◌}
use native.Mathlib.Omega.{arith}
use Rattle.measure.proofs.TableSheets.{rows_room, name_room}
use Rattle.measure.proofs.rows.is_name.Goals as goal

pub row_at-row-requires : goal.row_at-row-requires
row_at-row-requires c = omega (arith, rows_room _ c.requires.0 c.requires.1)

-- the name's data word is there
pub bounds-table-28 : goal.bounds-table-28
bounds-table-28 c =
    omega (
      arith,
      name_room _ c.requires.0.0 c.requires.0.1 c.requires.1 (sym c.row_at-row.ensures.kind ∙ c.if-row-ne-STRING.false)
          (sym c.row_at-row.ensures.a ∙ c.if-row-ne-LETTERS.false),
    )
