-- Rule Q7: a claim has one grade for a list in every order, where its numbers are allowed. Assumes nothing.
use Rattle.std.specs.Prelude.{◌≡◌, refl, true, ℕ}
use mathlib.Core.List.{List, Perm}
use Rattle.kinds.specs.Limits.{Width}
use Rattle.kinds.specs.Verdict.{Verdict}
use Rattle.kinds.specs.Verdict.{Good, Refused}
use Rattle.judge.specs.Judge.{judged}
use Rattle.judge.specs.Table.{Allowed}
use Rattle.sums.proofs.Reordered.{judged_same, sum_of_reordered}
use Rattle.grade.specs.Grade.{graded_after}
use Rattle.grade.specs.Table.{OneGrade}

pub grade_reordered : {W : Width} {ps qs : List ℕ} → Perm ps qs → Allowed W ps → OneGrade W ps qs
unfolding graded_after
grade_reordered {W} {ps} {qs} π A c = rw (judged_same W π true true A) (by (judged W true true qs))
  where
    by : (v : Verdict) → graded_after W v ps c ≡ graded_after W v qs c
    by Good = rw (sum_of_reordered π W)
    by (Refused k i) = refl
