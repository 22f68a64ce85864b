-- Text in a lent area, and numbers as text. Definitions first, then laws.
pub mod Text
pub mod Put
pub mod Numerals
