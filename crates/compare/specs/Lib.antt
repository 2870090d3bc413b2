-- The meaning of comparing two tables, the words of its theorems, and worked examples.
pub mod Differences
pub mod Places
pub mod Examples
-- No meanings, but what contracts cite beside them: the answer as the code gives it; two tables walked row by row.
pub mod Told
pub mod Walks
