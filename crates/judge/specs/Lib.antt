-- The fault of one pattern, the first refusal of a list, and the sign of a zero sum. Definitions first, then laws.
pub mod Judge
pub mod Table
pub mod FaultLaws
pub mod FaultlessLaws
pub mod GreatestLaws
pub mod IeeeZero
