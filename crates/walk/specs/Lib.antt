-- The faithful walk.
pub mod Sums
pub mod Walk
pub mod Stepping
pub mod OpeningLaws
pub mod Rising
pub mod Run
pub mod Ensembles
pub mod NoRefusal
pub mod Told
pub mod Before
