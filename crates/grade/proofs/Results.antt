-- Rule K1 for what the call gives: any two results that meet its contract are equal. Assumes nothing.
use Rattle.std.specs.Prelude.{◌≡◌, List, ℕ, Result}
use Rattle.kinds.specs.declared.refusal.Refusal.{Refusal}
use Rattle.kinds.specs.Limits.{Width}
use Rattle.kinds.proofs.OutcomeLaws.{same}
use Rattle.grade.specs.declared.grades.Grade.{Grade}
use Rattle.grade.specs.Answers.{as_graded}
use Rattle.grade.specs.Grade as answers
use Rattle.grade.proofs.GradedSame.{graded_same}

pub graded_results : (W : Width) (ps : List ℕ) (c : ℕ) {r q : Result Grade Refusal} → as_graded r ≡ answers.grade_of W ps c
    → as_graded q ≡ answers.grade_of W ps c → r ≡ q
graded_results W ps c {r} {q} e f = graded_same r q (same e f)
