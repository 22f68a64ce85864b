-- The leaver's weight handed on, for C.
pub mod WeightArrays
