-- The walk by blocks, for C.
pub mod StepArrays
pub mod Inner
pub mod Readable
