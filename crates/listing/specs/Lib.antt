pub mod Lines
pub mod Puts
pub mod RowTexts
pub mod Listings
