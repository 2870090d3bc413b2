-- A sheet and its items, and the theorems about reading and writing one.
pub mod SheetLaws
pub mod SheetForm
pub mod MeasuredExactly
pub mod SheetWritten
pub mod Examples
-- The code: the tests that it makes, the table's rows as a sheet, and what is answered.
pub mod UnitLaws
pub mod RowTests
pub mod TableSheets
pub mod Answering
pub mod SheetCases
