-- A register that carries later. Definitions first, then laws.
pub mod Laid
pub mod Lanes
pub mod Limits
pub mod Settle
pub mod Table
pub mod SettleTable
pub mod Runs
pub mod Three
pub mod LaneFarewell
pub mod RunLaws
pub mod FirstForm
