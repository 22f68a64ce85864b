-- A register that carries later, for C.
pub mod LaneArrays
