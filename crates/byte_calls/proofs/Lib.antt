-- The crate's theorems and lemmas.
pub mod Codes
pub mod Promised
pub mod RegisterBytes
