pub mod Copies
pub mod Texts
pub mod Plain
pub mod Containers
pub mod Walks
pub mod Whole
pub mod Stretch
pub mod Contents
