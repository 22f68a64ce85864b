-- Products of pairs and the nearest weighted sum, for C.
pub mod PairArrays
