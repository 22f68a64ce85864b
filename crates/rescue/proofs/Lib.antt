-- What the proofs of the loops over entries cite.
pub mod EntryLaws
pub mod Good
pub mod Marks
pub mod RescueCases
pub mod RescueLaws
pub mod Results
pub mod Saved
pub mod SavedWhole
