-- Finite numbers among the register's words. Definitions first, then laws.
pub mod Addend
pub mod PatternFields
pub mod OppositePattern
pub mod Sides
