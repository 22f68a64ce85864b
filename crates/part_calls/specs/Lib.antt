-- The sum of a list in parts, for C.
pub mod PartArrays
