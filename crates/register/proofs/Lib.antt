-- What the proofs of single functions cite.
pub mod AnyHistory
pub mod EnterLaws
pub mod Farewell
pub mod MergeLaws
pub mod RegisterLaws
pub mod Rooms
pub mod RoundedLaws
pub mod Rounding
pub mod RunLaws
pub mod SitesLaws
pub mod ThreeBits
pub mod ThreeLengths
pub mod TopBits
