-- The crate's theorems and lemmas.
pub mod AcceptedLaws
pub mod FieldLaws
pub mod GrainLaws
pub mod HandedLaws
pub mod Instances
pub mod LoopLaws
pub mod Promised
pub mod ShareLaws
pub mod TableLaws
pub mod WeightLaws
pub mod HandedSame
pub mod Results
