-- The crate's theorems and lemmas.
pub mod WidthLaws
pub mod AdmittedLaws
pub mod GateLaws
pub mod LimitLaws
pub mod PlacesLaws
pub mod SoundLaws
pub mod WithinLaws
