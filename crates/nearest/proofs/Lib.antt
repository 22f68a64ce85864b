-- The crate's theorems and lemmas.
pub mod BitsLaws
pub mod HeadLaws
pub mod NearestBits
pub mod RegisterBits
