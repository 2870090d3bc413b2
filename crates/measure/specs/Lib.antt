-- The meaning of the measure sheet, the words of its theorems, and worked examples.
pub mod Sheets
pub mod Words
pub mod Examples
-- No meanings, but what contracts cite beside them: the answer as the code gives it; the rows of a sheet's table.
pub mod Told
pub mod Units
pub mod SheetRows
