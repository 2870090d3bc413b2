-- The laws, each file standing on those before it: numbers, leaves, lengths, the survey, writing, and the answers.
pub mod NumberLaws
pub mod LeafForms
pub mod StringLaws
pub mod WordLaws
pub mod Lengths
pub mod Passing
pub mod Surveying
pub mod Moving
pub mod WriteLaws
pub mod StretchLaws
pub mod ContainerLaws
pub mod TopLaws
