-- What the contracts cite beside the meanings: rows by position with the items that stand there, and whether a row is in order.
pub mod Rows
pub mod InOrder
