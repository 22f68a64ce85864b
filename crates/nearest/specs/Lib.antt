-- The leading digits of a number of words, and the bits of the double nearest to it. Definitions first, then laws.
pub mod Head
pub mod Bits
pub mod Sticky
