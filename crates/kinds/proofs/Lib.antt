-- The crate's theorems and lemmas.
pub mod Areas
pub mod Comparing
pub mod AnswersLaws
pub mod HeardLaws
pub mod Hearing
pub mod KnownLaws
pub mod LimitsLaws
pub mod OutcomeLaws
