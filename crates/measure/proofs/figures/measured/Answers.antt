-- `measure::figures::measured` meets its contract. Assumes nothing.
use mathlib.Core.Path.{◌≡◌, sym, ap, ◌∙◌}
use native.Mathlib.Omega.{arith}
use mathlib.Core.List.{[]}
use lib.ListN.{get_or}
use Rattle.format.specs.Numbers.{signed}
use Rattle.format.proofs.SignedLaws.{handed}
use Rattle.measure.specs.Sheets.{scale_code, micrometres}
use Rattle.measure.specs.SheetRows.{scale_at, row_of}
use Rattle.measure.specs.Units.{scale_of}
use Rattle.measure.proofs.UnitLaws.{unit_scale, unit_known}
use Rattle.measure.proofs.Answering.{Small, um_fits, sheet_told, unit_below}
use Rattle.measure.proofs.figures.measured.Goals as goal
use Rattle.measure.proofs.figures.measured.Goals.{After-code}

pub unwrap-unit-requires : goal.unwrap-unit-requires
unwrap-unit-requires c = unit_known c.row_at.result.b c.try_from.result c.try_from.ensures (omega (arith, c.row_at.ensures.b, unit_below c.args.table.now c.requires.sheet))

-- the micrometres in one, by the code of the unit
each : (c : After-code) → c.micrometres-each.result ≡ micrometres (scale_at c.code.result)
each c = c.micrometres-each.ensures ∙ ap micrometres (unit_scale c.code.result c.unwrap-unit.result c.code.ensures)

-- the products are small
small : (c : After-code)
    → Small c.micrometres-each.result (get_or c.figure_rows.result 0 (row_of [] 0)).b (get_or c.figure_rows.result 1 (row_of [] 0)).b (get_or c.figure_rows.result 2 (row_of [] 0)).b
small c =
    um_fits c.args.table.now _ c.code.result _ _ _ c.requires (each c) (ap (λ l. (get_or l 0 (row_of [] 0)).b) c.figure_rows.ensures) (ap (λ l. (get_or l 1 (row_of [] 0)).b) c.figure_rows.ensures)
    (ap (λ l. (get_or l 2 (row_of [] 0)).b) c.figure_rows.ensures)

pub returns : goal.returns
returns c =
    let z = handed _ c.value_of.result c.value_of.type_inv (c.value_of.ensures ∙ ap (signed 8) c.row_at-2.ensures.b) in
    let u : c.row_at.result.b ≡ scale_code (scale_of c.unwrap-unit.result) = rw c.unwrap-unit.ensures at c.try_from.ensures in
    sheet_told c.args.table.now _ _ _ _ _ _ _ c.requires z (c.code.ensures ∙ sym u ∙ c.row_at.ensures.b) (ap (λ l. (get_or l 0 (row_of [] 0)).b) c.figure_rows.ensures)
    (ap (λ l. (get_or l 1 (row_of [] 0)).b) c.figure_rows.ensures) (ap (λ l. (get_or l 2 (row_of [] 0)).b) c.figure_rows.ensures) (each (goal.at.returns c).After-code)

pub overflow_mul-result : goal.overflow_mul-result
overflow_mul-result c = omega (arith, (small (goal.at.overflow_mul-result c).After-code).0)

pub overflow_mul-result-2 : goal.overflow_mul-result-2
overflow_mul-result-2 c = omega (arith, (small (goal.at.overflow_mul-result-2 c).After-code).1)

pub overflow_mul-result-3 : goal.overflow_mul-result-3
overflow_mul-result-3 c = omega (arith, (small (goal.at.overflow_mul-result-3 c).After-code).2)
