-- The crate's theorems and lemmas.
pub mod RescueCodes
pub mod SheetArraysLaws
pub mod SheetCodes
pub mod Unlooked
pub mod WriteCodes
