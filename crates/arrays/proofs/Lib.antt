-- The crate's theorems and lemmas.
pub mod ArraysLaws
pub mod CodesLaws
pub mod Refused
