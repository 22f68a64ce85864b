-- What the proofs of the words share.
pub mod WaysLaws
