-- The grade of a claimed sum, for C.
pub mod GradeArrays
