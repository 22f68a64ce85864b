-- Handing on the weight of a clock that leaves. Definitions first, then laws.
pub mod Handed
pub mod Answers
pub mod Weights
pub mod Table
pub mod Promise
pub mod GrainLaws
pub mod WeightLaws
pub mod FieldLaws
pub mod LoopLaws
