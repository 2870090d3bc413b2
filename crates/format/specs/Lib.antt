-- The meanings, in the order in which they are best read. They cite the paper's sentences and do not follow the code. The paper is
-- the order by which this product was built; docs/FORMAT.md has its rules.
pub mod Choice
pub mod Numbers
pub mod Bits
pub mod Refusals
pub mod Items
pub mod Same
pub mod Classes
pub mod Objects
pub mod Messages
pub mod Tables
pub mod Normal
pub mod Answers
pub mod Extents
pub mod Examples
-- No meanings, but what contracts cite beside them: how the code numbers the classes, and the count by which it tells them; a run
-- piece by piece; a lent slice that is written in part; the kinds and the refusals by the code's names.
pub mod Codes
pub mod Ones
pub mod Runs
pub mod Lent
pub mod Kinds
pub mod Refused
