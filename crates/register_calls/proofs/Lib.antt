-- The crate's theorems and lemmas.
pub mod RegisterArraysLaws
pub mod RegisterCodes
