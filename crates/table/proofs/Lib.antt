-- The laws, each file standing on those before it: single rows, their bits and codes, what stands in them, judging, and runs.
pub mod RowLaws
pub mod BitRows
pub mod CodeLaws
pub mod Standing
pub mod LeafRows
pub mod KindLaws
pub mod Judging
pub mod Whole
pub mod RowData
pub mod RunLaws
