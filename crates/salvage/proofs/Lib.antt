-- The laws of salvaging, by their subject: the parts of any bytes, and what comes out of them.
pub mod PartLaws
pub mod OwnExtents
pub mod MendedLaws
pub mod Sound
-- The theorems.
pub mod Ample
pub mod SalvagedExactly
pub mod Salvaged
pub mod Damaged
pub mod Accounted
pub mod ItemsLeft
pub mod SalvagedSame
pub mod RestNumbers
pub mod ChangesFew
pub mod Examples
-- What the code's proofs stand on.
pub mod ExtentLaws
pub mod Verdicts
pub mod PartCases
pub mod PartFound
pub mod Surveying
pub mod Copying
pub mod Laying
pub mod Answering
