-- The sums of a list in one call, for C.
pub mod SumArrays
