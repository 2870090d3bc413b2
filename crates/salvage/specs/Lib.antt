-- The meaning of salvaging, the words of its theorems, and worked examples.
pub mod Mending
pub mod Words
pub mod Examples
-- No meanings, but what contracts cite beside them: a part as the code tells it, and the answer as the code gives it.
pub mod Told
