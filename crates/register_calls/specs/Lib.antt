-- A register's words, for C.
pub mod RegisterArrays
