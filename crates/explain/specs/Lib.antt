-- The meaning (Reasons, Explanations), the words of its theorem (Facts), and worked messages.
pub mod Reasons
pub mod Explanations
pub mod Facts
pub mod Examples
-- No meanings, but what contracts cite beside them.
pub mod Told
