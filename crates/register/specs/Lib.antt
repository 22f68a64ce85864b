-- The exact register. Definitions first, then laws.
pub mod Register
pub mod Signs
pub mod Entries
pub mod Merge
pub mod Farewell
