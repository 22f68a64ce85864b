-- What the proofs of single functions cite.
pub mod PatternLaws
pub mod WordLaws
pub mod CaseWords
pub mod Amid
pub mod AnswerLaws
pub mod CaseLaws
pub mod Distances
pub mod GradeLaws
pub mod Neighbours
pub mod Promised
pub mod Reordered
pub mod SideLaws
pub mod TableLaws
pub mod GradedSame
pub mod Results
