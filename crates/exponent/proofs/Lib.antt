-- The crate's theorems and lemmas.
pub mod CeilingLaws
pub mod PatternLaws
pub mod PowerLaws
