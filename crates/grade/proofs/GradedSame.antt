-- What the call gives is its answer: two that are read as the same are the same. Assumes nothing.
use Rattle.std.specs.Prelude.{◌≡◌, refl, ℕ, Result, Ok, Err}
use Rattle.std.proofs.Common.{sym, ap, ◌∙◌}
use Rattle.lists.proofs.Apart.{apart}
use Rattle.kinds.specs.declared.refusal.Refusal.{Refusal}
use Rattle.kinds.specs.Refusals.{number, place}
use Rattle.kinds.proofs.AnswersLaws.{refusal_same}
use Rattle.grade.specs.declared.grades.Grade.{Grade}
use Rattle.grade.specs.declared.grades.Grade.TheVariants as given
use Rattle.grade.specs.Graded.{Graded, Exact, Nearest, Faithful, Wrong, Refused}
use Rattle.grade.specs.Answers.{as_grade, as_graded}

-- a grade read back; what stands for a refusal doesn't matter
grade_of : Graded → Grade
grade_of Exact = given.Exact
grade_of Nearest = given.Nearest
grade_of Faithful = given.Faithful
grade_of Wrong = given.Wrong
grade_of (Refused k i) = given.Wrong

back : (g : Grade) → grade_of (as_grade g) ≡ g
unfolding grade_of
back given.Exact = refl
back given.Nearest = refl
back given.Faithful = refl
back given.Wrong = refl

pub grade_same : (a b : Grade) → as_grade a ≡ as_grade b → a ≡ b
grade_same a b e = sym (back a) ∙ ap grade_of e ∙ back b

not_refused : {X : Type 0} (g : Grade) (k i : ℕ) → as_grade g ≡ Refused k i → X
not_refused given.Exact k i e = apart (cc)
not_refused given.Nearest k i e = apart (cc)
not_refused given.Faithful k i e = apart (cc)
not_refused given.Wrong k i e = apart (cc)

pub graded_same : (a b : Result Grade Refusal) → as_graded a ≡ as_graded b → a ≡ b
graded_same (Ok g) (Ok h) e = ap Ok (grade_same g h e)
graded_same (Ok g) (Err q) e = not_refused g (number q) (place q) e
graded_same (Err r) (Ok h) e = not_refused h (number r) (place r) (sym e)
graded_same (Err r) (Err q) e = ap Err (refusal_same r q (cc) (cc))
