-- Exactly when each code of a grading is returned, and 0; any two results that meet the contract are equal, the code and the array; and another code than 0
-- leaves the array as it was. Assumes nothing.
use Rattle.std.specs.Prelude.{◌≡◌, refl, List, ℕ, eqb, length}
use Rattle.std.proofs.Common.{ap, arith}
use Rattle.kinds.specs.Limits.{doubles}
use Rattle.kinds.specs.Outcome.{outcome}
use Rattle.kinds.proofs.OutcomeLaws.{determined}
use Rattle.grade.specs.Grade.{grade_of, graded_heard}
use Rattle.grade.specs.Table.{GradedWhen, too_many, bad_number, bad_claim, earned}
use Rattle.grade.proofs.TableLaws.{roomy_doubles, graded_heard_lem, is_grade}
use Rattle.grade.specs.Graded.{Refused}
use Rattle.arrays.specs.Arrays.{too_many_or_4}
use Rattle.arrays.specs.Codes.{Coded}
use Rattle.arrays.specs.CodesLaws.{answer_in}
use Rattle.arrays.proofs.CodesLaws.{coded, list_nonzero, values_call_left}
use Rattle.grade_calls.specs.GradeArrays.{grade_arrays}
use Rattle.grade_calls.proofs.GradeArraysLaws.{grade_other, grade_called}

-- no refusal has the number 0
some : {ps : List ℕ} {c k i : ℕ} → GradedWhen doubles ps c (Refused k i) → k ≡ 0 → ⊥
some (too_many h) z = omega arith
some (bad_number h k i F) z = F.bad z
some (bad_claim h A n) z = omega arith
some (earned h A t g E) z = absurd (is_grade E)

module _ (ps : List ℕ) (c : ℕ) (out : List ℕ) where
  -- ---- exactly when
  pub grade_coded : Coded 1 (length out) (too_many_or_4 ps) (graded_heard (grade_of doubles ps c)) (grade_arrays ps c out).answer
  grade_coded = coded 1 (length out) (too_many_or_4 ps) (graded_heard (grade_of doubles ps c))
      (λ l. ap answer_in (grade_called ps c out l)) (λ l. ap answer_in (grade_other ps c out l))
      (λ p e. some ((graded_heard_lem doubles roomy_doubles ps c 0 p).0 e).1 refl) (list_nonzero doubles ps)

  -- ---- determined
  pub grade_determined : {r q : ℕ} {us vs : List ℕ} → outcome r us ≡ grade_arrays ps c out → outcome q vs ≡ grade_arrays ps c out → (r ≡ q) × (us ≡ vs)
  grade_determined = determined (grade_arrays ps c out)

  -- ---- what a refusal leaves
  pub grade_left : ((grade_arrays ps c out).answer ≡ 0 → ⊥) → (grade_arrays ps c out).area ≡ out
  unfolding grade_arrays
  grade_left = values_call_left (graded_heard (grade_of doubles ps c)) out (eqb (length out) 1) (too_many_or_4 ps)
