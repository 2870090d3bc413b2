pub mod Extents
pub mod Heads
pub mod Ranges
pub mod WordsAt
