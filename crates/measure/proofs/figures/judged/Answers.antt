-- `measure::figures::judged` meets its contract. Assumes nothing.
use mathlib.Core.Path.{◌≡◌, sym, ◌∙◌}
use mathlib.Core.Bool.{true, false}
use Prim.Native.Nat.{◌≤◌}
use lib.ListN.{length}
use Rattle.measure.specs.Sheets.{any_empty}
use Rattle.table.specs.Rows.{b_at}
use Rattle.measure.specs.SheetRows.{is_sheet, all_fair, sheet_at}
use Rattle.measure.proofs.Answering.{not_measured, asked_first, not_in_range, in_range_told}
use Rattle.measure.proofs.RowTests.{fair_all}
use Rattle.measure.proofs.TableSheets.{rows_room, sheet_eight}
use Rattle.measure.proofs.figures.judged.Goals as goal
use Rattle.measure.proofs.figures.judged.Goals.{Else-any_empty, Else-not-is_sheet, After-all_fair}

-- from here on it is a sheet
sheet : (c : Else-not-is_sheet) → is_sheet c.args.table.now ≡ true
sheet c = sym c.is_sheet.ensures ∙ c.if-not-is_sheet.false

room : (c : Else-not-is_sheet) → 28 ≤ length c.args.table.now
room c = rows_room _ c.requires (sheet_eight _ (sheet c))

-- from here on no figure is EMPTY
full : (c : Else-any_empty) → any_empty (sheet_at c.args.table.now) ≡ false
full c = sym c.any_empty.ensures ∙ c.if-any_empty.false

-- what was asked of the figures
asked : (c : After-all_fair) → c.all_fair.result ≡ all_fair (b_at c.args.table.now 5) (b_at c.args.table.now 6) (b_at c.args.table.now 7)
asked c = rw c.figure_rows.ensures at c.all_fair.ensures ∙ fair_all _ _ _

pub returns-then-not-is_sheet : goal.returns-then-not-is_sheet
returns-then-not-is_sheet c = not_measured c.args.table.now _ (sym c.is_sheet.ensures ∙ c.if-not-is_sheet.true)

pub any_empty-requires : goal.any_empty-requires
any_empty-requires c = room (goal.at.any_empty-requires c).Else-not-is_sheet

pub returns-then-any_empty : goal.returns-then-any_empty
returns-then-any_empty c =
    asked_first c.args.table.now _ (sheet (goal.at.returns-then-any_empty c).Else-not-is_sheet) (sym c.any_empty.ensures ∙ c.if-any_empty.true)

pub figure_rows-requires : goal.figure_rows-requires
figure_rows-requires c = room (goal.at.figure_rows-requires c).Else-not-is_sheet

pub returns-then-not-all_fair : goal.returns-then-not-all_fair
returns-then-not-all_fair c =
    not_in_range c.args.table.now _ (sheet (goal.at.returns-then-not-all_fair c).Else-not-is_sheet) (full (goal.at.returns-then-not-all_fair c).Else-any_empty)
    (sym (asked (goal.at.returns-then-not-all_fair c).After-all_fair) ∙ c.if-not-all_fair.true)

pub measured-requires : goal.measured-requires
measured-requires c =
    record {
      sheet = sheet (goal.at.measured-requires c).Else-not-is_sheet;
      room = room (goal.at.measured-requires c).Else-not-is_sheet;
      there = full (goal.at.measured-requires c).Else-any_empty;
      fit = sym (asked (goal.at.measured-requires c).After-all_fair) ∙ c.if-not-all_fair.false;
    }

pub returns : goal.returns
returns c =
    c.measured.ensures
    ∙ in_range_told c.args.table.now _ (sheet (goal.at.returns c).Else-not-is_sheet) (full (goal.at.returns c).Else-any_empty)
    (sym (asked (goal.at.returns c).After-all_fair) ∙ c.if-not-all_fair.false)
