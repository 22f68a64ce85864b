-- The crate's theorems and lemmas.
pub mod EightsLaws
pub mod Instances
pub mod OctetsLaws
