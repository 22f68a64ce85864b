-- What the call gives, as the answer that the definitions speak of. Definitions only.
use Rattle.std.specs.Prelude.{Result, Ok, Err}
use Rattle.kinds.specs.declared.refusal.Refusal.{Refusal}
use Rattle.kinds.specs.Refusals.{number, place}
use Rattle.grade.specs.declared.grades.Grade.{Grade}
use Rattle.grade.specs.declared.grades.Grade.TheVariants as given
use Rattle.grade.specs.Graded.{Graded}
use Rattle.grade.specs.Graded as gradeds

abbrev pub as_grade : Grade → Graded
as_grade given.Exact = gradeds.Exact
as_grade given.Nearest = gradeds.Nearest
as_grade given.Faithful = gradeds.Faithful
as_grade given.Wrong = gradeds.Wrong

abbrev pub as_graded : Result Grade Refusal → Graded
as_graded (Ok g) = as_grade g
as_graded (Err r) = gradeds.Refused (number r) (place r)
