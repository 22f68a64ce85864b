-- A number in bytes.
pub mod Octets
