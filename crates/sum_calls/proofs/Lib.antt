-- The crate's theorems and lemmas.
pub mod SumArraysLaws
pub mod SumCodes
pub mod SumZeros
