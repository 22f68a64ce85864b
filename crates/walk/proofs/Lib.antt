-- The crate's theorems and lemmas.
pub mod Admitted
pub mod BeforeLaws
pub mod Ensembles
pub mod NoRefusal
pub mod OpeningLaws
pub mod StepLaws
pub mod SumsLaws
pub mod Told
pub mod UndividedLaws
