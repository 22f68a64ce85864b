-- Laws that one proof needs.
pub mod ClosableLaws
pub mod WidthLaws
pub mod Blocks
pub mod Closes
pub mod CutLaws
pub mod FreshRound
pub mod GroupedSums
pub mod PatternLaws
pub mod SigmaLaws
