-- The laws of the differences of two tables, by their subject.
pub mod Pairs
pub mod DifferenceLaws
pub mod Turning
pub mod PlaceLaws
pub mod Naming
pub mod ItemRows
pub mod InTables
pub mod Examples
pub mod WordLaws
pub mod RowPairs
pub mod Walking
pub mod ListLaws
pub mod Answering
pub mod ComparedExactly
pub mod RowsTold
