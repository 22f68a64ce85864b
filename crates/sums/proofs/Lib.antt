-- What the proof of one function cites.
pub mod AnswerLaws
pub mod AnswerNumbers
pub mod Farewell
pub mod Merged
pub mod PartsMeaning
pub mod Promised
pub mod Reordered
pub mod SettleLaws
pub mod Settled
pub mod SideSums
pub mod SignLanesLaws
pub mod SplitLaws
pub mod SumLaws
pub mod SumsReordered
pub mod ZeroSums
