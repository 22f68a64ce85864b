-- The crate's theorems and lemmas.
pub mod OpenZeros
pub mod Readable
pub mod StepArraysLaws
pub mod StepCodes
