-- A list in lanes. Definitions first, then laws.
pub mod Timed
