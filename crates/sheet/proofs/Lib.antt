-- The crate's theorems and lemmas.
pub mod HeaderLaws
pub mod Instances
pub mod LayoutLaws
pub mod Results
pub mod SheetLaws
pub mod TableLaws
pub mod ThereAndBack
pub mod WriteCases
pub mod WriteInstances
pub mod WriteLaws
