-- The grade of a claimed sum, as a C call: what it returns, and what it leaves in the array that it is lent. Definitions only.
use Rattle.std.specs.Prelude.{cond, List, ℕ, eqb, length}
use Rattle.kinds.specs.Limits.{doubles}
use Rattle.kinds.specs.Outcome.{Outcome, outcome}
use Rattle.grade.specs.Grade.{grade_of, graded_heard}
use Rattle.arrays.specs.Arrays.{code_of, values_of, too_many_or_4}

-- rules C9 and C10: c is the claim
unfoldable pub grade_arrays : List ℕ → ℕ → List ℕ → Outcome ℕ ℕ
grade_arrays ps c out =
    let h = graded_heard (grade_of doubles ps c) in
    cond (eqb (length out) 1) (outcome (code_of h) (values_of h out)) (outcome (too_many_or_4 ps) out)
