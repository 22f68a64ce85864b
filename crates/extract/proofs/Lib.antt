-- The crate's theorems and lemmas.
pub mod AreaLaws
pub mod LargestWithLaws
pub mod TurnLaws
