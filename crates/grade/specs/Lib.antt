-- The grade of a sum that came from elsewhere. Definitions first, then laws.
pub mod Graded
pub mod Answers
pub mod Grade
pub mod Table
pub mod Amid
pub mod SideLaws
pub mod TableLaws
