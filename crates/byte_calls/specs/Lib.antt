-- What the calls on bytes promise.
pub mod SumBytes
