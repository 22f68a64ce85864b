-- The crate's theorems and lemmas.
pub mod GradeArraysLaws
pub mod GradeCodes
