-- The crate's theorems and lemmas.
pub mod AllowedLaws
pub mod FaultlessLaws
pub mod FirstBadLaws
pub mod FirstFaultLaws
pub mod IeeeZero
pub mod JudgeCases
pub mod JudgeLaws
pub mod ZeroLaws
