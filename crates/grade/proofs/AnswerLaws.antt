-- What is answered, case by case: as the list is judged, and as the claim is finite. Assumes nothing.
use Rattle.std.specs.Prelude.{◌≡◌, true, false, List, ℕ}
use Rattle.std.specs.Float.Ieee.{of_bits}
use Rattle.std.specs.Float.Ieee.Scale.{finite}
use Rattle.kinds.specs.Limits.{Width}
use Rattle.kinds.specs.Verdict.{Verdict}
use Rattle.kinds.specs.Verdict as verdicts
use Rattle.sums.specs.Sums.{sum_of}
use Rattle.grade.specs.Grade.{grade_at, graded_after}
use Rattle.grade.specs.Graded.{Refused}

module _ (W : Width) (ps : List ℕ) (c : ℕ) where
  pub list_refused : {v : Verdict} (k i : ℕ) → v ≡ verdicts.Refused k i → graded_after W v ps c ≡ Refused k i
  unfolding graded_after
  list_refused k i e = rw e

  module _ {v : Verdict} (e : v ≡ verdicts.Good) where
    pub claim_refused : finite (of_bits W.format c) ≡ false → graded_after W v ps c ≡ Refused 20 0
    unfolding graded_after
    claim_refused n = rw (e, n)

    pub claim_graded : finite (of_bits W.format c) ≡ true → graded_after W v ps c ≡ grade_at W.format (sum_of W.format ps) (of_bits W.format c)
    unfolding graded_after
    claim_graded t = rw (e, t)
