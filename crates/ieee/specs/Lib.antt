-- Floats and their bit patterns as whole numbers of units, over lib.Ieee's formats. Definitions first, then laws, each file over those above it.
pub mod Units
pub mod Accuracy
pub mod ErrorFree
pub mod Zeros
pub mod Scaled
pub mod Split
