-- The crate's theorems and lemmas.
pub mod Instances
pub mod LineLaws
pub mod LinesLaws
pub mod Places
pub mod SheetAlone
pub mod SumLaws
