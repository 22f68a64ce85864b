-- The crate's theorems and lemmas.
pub mod PartArraysLaws
pub mod PartCodes
pub mod PartZeros
