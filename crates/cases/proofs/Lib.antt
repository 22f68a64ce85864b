-- The crate's theorems and lemmas.
pub mod BytesFromC
pub mod Example
pub mod FromC
pub mod Holds
pub mod Lanes
pub mod LanesFromC
pub mod Orders
pub mod OtherLengths
pub mod Singles
