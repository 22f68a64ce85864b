-- The arithmetic of whole units at p significant bits. Definitions first, then laws, each file over those above it.
pub mod Whole
pub mod Rounding
pub mod Faithful
pub mod Walk
pub mod NaturalRounding
pub mod Extraction
pub mod RemainderSum
pub mod Split
pub mod TwoProduct
