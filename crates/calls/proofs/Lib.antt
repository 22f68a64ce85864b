-- The crate's theorems and lemmas.
pub mod CallsLaws
pub mod CodeLaws
pub mod RefusalLaws
