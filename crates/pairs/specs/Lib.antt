-- Products of pairs, each with its exact error, and weighted sums. Definitions first, then laws.
pub mod Limits
pub mod Paired
pub mod Answers
pub mod Pairs
pub mod Table
pub mod Promise
pub mod FaultLaws
pub mod TotalLaws
pub mod PairLaws
pub mod ListLaws
