-- The crate's theorems and lemmas.
pub mod PairArraysLaws
pub mod PairCodes
