-- What the contracts cite beside the meanings: the parts of a normal form, lengths and room, the survey and the verdict on a table.
pub mod Forms
pub mod Measures
pub mod Surveys
pub mod Verdicts
