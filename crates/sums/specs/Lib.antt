-- The sums of a list. Definitions first, then laws.
pub mod Sums
pub mod ListSides
pub mod SignLanes
pub mod Reordering
pub mod NonOverlapping
pub mod FirstPlace
pub mod PartsLaws
pub mod SignLanesLaws
pub mod SettleLaws
pub mod PartsMeaning
pub mod Promised
pub mod Merged
