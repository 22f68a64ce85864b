-- What holds of every run of the faithful walk.
pub mod CloseUnits
pub mod AnyState
pub mod Summing
pub mod SumRun
pub mod OpenedSum
pub mod Faithful
pub mod Taken
pub mod TakenLaws
pub mod Runs
pub mod MidRound
pub mod Numbered
pub mod OrderLaws
pub mod Demand3
pub mod Reordering
pub mod ReorderedRounds
pub mod Instances
