-- The words of a register as a whole number, and what is added to them or taken from them.
pub mod Ways
pub mod Words
