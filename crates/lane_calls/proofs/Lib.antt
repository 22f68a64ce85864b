-- The crate's theorems and lemmas.
pub mod LaneArraysLaws
pub mod LaneCodes
