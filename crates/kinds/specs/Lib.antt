-- The scope's limits, why a call refuses, what each answers, and what a caller hears of it.
pub mod Limits
pub mod State
pub mod States
pub mod Outcome
pub mod Refusals
pub mod Verdict
pub mod Step
pub mod Nearest
pub mod Parted
pub mod Entry
pub mod Sheet
pub mod Answers
pub mod Known
pub mod ItselfLaws
pub mod Heard
pub mod HeardLaws
