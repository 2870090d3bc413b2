-- The laws of the meanings, by their subject. The first line of each file says what it proves.
-- ---- tests, numbers, bits
pub mod Choices
pub mod Digits
pub mod SignedLaws
pub mod BitLaws
pub mod Marker
pub mod MaskLaws
pub mod OrLaws
-- ---- slices as the code lends them, and what is written over them
pub mod Parts
pub mod Over
-- ---- type-bytes and their classes
pub mod ClassCodes
pub mod TreeLaws
pub mod OnesLaws
pub mod TypeBytes
-- ---- the head of an object
pub mod Sizes
pub mod HeadCases
pub mod Extents
pub mod GrownHeads
-- ---- objects and runs: one step, where they end, piece by piece, faults, bytes more and fewer
pub mod Steps
pub mod Bounds
pub mod Runs
pub mod Faults
pub mod Growing
pub mod Apart
pub mod Cuts
pub mod ReadProper
-- ---- items and their tables
pub mod SameLaws
pub mod ItemLaws
pub mod Counts
pub mod TableLaws
-- ---- the normal form
pub mod Shortest
pub mod NormalHeads
pub mod NormalBytes
pub mod RoundTrip
pub mod Minimal
-- ---- what the asks claim, and the examples
pub mod OneKind
pub mod Fewer
pub mod Single
pub mod Examples
