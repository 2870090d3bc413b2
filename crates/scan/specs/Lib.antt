pub mod Sums
pub mod Answer
pub mod Stretch
pub mod Shorts
