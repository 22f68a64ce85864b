-- The crate's theorems and lemmas.
pub mod Apart
pub mod BitsetLaws
pub mod CarryLaws
pub mod Filter
pub mod Front
pub mod LeadingZeros
pub mod Magnitude
pub mod Reordered
pub mod SignedDigits
pub mod SignedSums
pub mod TwosComplement
pub mod WordShifts
