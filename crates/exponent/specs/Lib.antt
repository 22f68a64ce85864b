-- Powers of two as floats, and the least one at or above a float.
pub mod Power
