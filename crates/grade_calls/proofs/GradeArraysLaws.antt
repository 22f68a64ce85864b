-- The grade of a claimed sum as a C call, case by case: another length of the array of values, and what the library's own call answers otherwise. Assumes
-- nothing.
use Rattle.std.specs.Prelude.{◌≡◌, List, ℕ, length}
use Rattle.std.proofs.Common.{ap, ◌∙◌, eq-eqb, ne_eqb}
use Rattle.kinds.specs.Limits.{doubles}
use Rattle.kinds.specs.Outcome.{outcome}
use Rattle.kinds.specs.Heard.{Refusal}
use Rattle.grade.specs.Grade.{grade_of, graded_heard}
use Rattle.grade.proofs.TableLaws.{roomy_doubles, graded_when, graded_refusal}
use Rattle.grade.specs.Graded.{Graded}
use Rattle.grade.specs.Graded.{Refused}
use Rattle.arrays.specs.Arrays.{code_of, values_of, too_many_or_4}
use Rattle.grade_calls.specs.GradeArrays.{grade_arrays}

module _ (ps : List ℕ) (c : ℕ) (out : List ℕ) where
  pub grade_other : (length out ≡ 1 → ⊥) → grade_arrays ps c out ≡ outcome (too_many_or_4 ps) out
  unfolding grade_arrays
  grade_other h = rw (ne_eqb (length out) 1 h)

  module _ (h : length out ≡ 1) where
    pub grade_called : grade_arrays ps c out ≡ outcome (code_of (graded_heard (grade_of doubles ps c))) (values_of (graded_heard (grade_of doubles ps c)) out)
    unfolding grade_arrays
    grade_called = rw (eq-eqb (length out) 1 h)

    -- the same of the answer that was given
    pub grade_answered : (g : Graded) → grade_of doubles ps c ≡ g → grade_arrays ps c out ≡ outcome (code_of (graded_heard g)) (values_of (graded_heard g) out)
    grade_answered g e = grade_called ∙ ap (λ (g : Graded). outcome (code_of (graded_heard g)) (values_of (graded_heard g) out)) e

-- what is refused is refused with a number of the table
pub grade_refusal : (ps : List ℕ) (c k i : ℕ) → grade_of doubles ps c ≡ Refused k i → Refusal doubles.length k i
grade_refusal ps c k i e = graded_refusal doubles roomy_doubles ps c ((graded_when doubles roomy_doubles ps c (Refused k i)).0 e)
