-- The crate's theorems and lemmas.
pub mod Determined
pub mod Results
pub mod Graded
pub mod Hearing
pub mod Products
pub mod Refusals
pub mod Singles
pub mod SoundStateLaws
pub mod TablesLaws
pub mod WalkHearing
pub mod WalkRefusals
pub mod Weighed
