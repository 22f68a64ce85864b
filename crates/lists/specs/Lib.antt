-- Facts on lists, and numbers written in digits of base 2 ^ w. Definitions first, then laws.
pub mod Digits
pub mod SignedDigits
pub mod Carry
pub mod Bitset
pub mod Each
pub mod Every
pub mod Filter
pub mod DigitLaws
pub mod LowestDigits
pub mod LeadingDigits
pub mod TwosComplement
pub mod Magnitude
