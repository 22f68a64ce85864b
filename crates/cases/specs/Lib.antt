-- The scope's twelve sums and registers, calls at its bounds, calls with two faults, calls on pairs, and calls from C.
pub mod Calls
pub mod Table
pub mod Bounds
pub mod Faults
pub mod PairRows
pub mod Largest
pub mod Lanes
pub mod Example
