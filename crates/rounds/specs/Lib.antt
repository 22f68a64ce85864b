-- One round of the faithful walk.
pub mod Round
pub mod Exactness
pub mod Closable
pub mod Fitting
pub mod InUnits
pub mod Begun
pub mod Closes
pub mod Instances
pub mod ClosedLaws
