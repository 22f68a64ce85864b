-- The crate's theorems and lemmas.
pub mod Instances
pub mod NumeralLaws
pub mod TextLaws
