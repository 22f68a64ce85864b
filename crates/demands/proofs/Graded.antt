-- Rule Q6: no faithful sum is graded wrong, undivided or at the end of a run, with its blocks in any order. Assumes nothing.
use Rattle.std.specs.Prelude.{◌≡◌, true, List, ℕ, eqb, Float, length}
use Rattle.std.proofs.Common.{sym, ◌∙◌}
use Rattle.std.specs.Float.Ieee.{to_bits}
use Rattle.lists.proofs.Apart.{apart}
use Rattle.kinds.specs.Limits.{doubles}
use Rattle.kinds.specs.Heard.{step_heard, done}
use Rattle.kinds.specs.Step.{Step}
use Rattle.kinds.specs.Step.{More, Done, Refused}
use Rattle.kinds.specs.Verdict.{Good}
use Rattle.judge.specs.Table.{ListWhen, allowed}
use Rattle.judge.proofs.JudgeLaws.{list_passed, list_allowed}
use Rattle.rounds.specs.Instances.{doubles_fit}
use Rattle.walk.specs.Walk.{faithful_of}
use Rattle.runs.proofs.Faithful.{faithful_promised}
use Rattle.runs.specs.Runs.{run_of}
use Rattle.runs.proofs.Demand3Laws.{run_finishes}
use Rattle.grade.specs.Grade.{grade_of}
use Rattle.grade.specs.Table.{NotWrong}
use Rattle.grade.proofs.Promised.{faithful_claim}

-- an answer of which a sum is heard is that sum
done_is : (a : Step) (c k : ℕ) → step_heard doubles a ≡ done c k → (x : Float) × (a ≡ Done x k) × (to_bits doubles.format x ≡ c)
done_is (More s told) c k e = apart (cc)
done_is (Done x r) c k e = (x, cc, cc)
done_is (Refused r p) c k e = apart (cc)

-- a list that is accepted with a work area is accepted without
module _ (ps : List ℕ) (work : List Float) (G : ListWhen doubles (eqb (length work) (length ps)) true ps Good) where
  alone : ListWhen doubles true true ps Good
  alone = allowed (record { few = (list_passed G).few; right_area = tt; right_parts = tt }) (list_allowed G)

  -- the pattern that is heard of the sum, as a claim
  module _ (c k : ℕ) where
    pub faithful_graded : step_heard doubles (faithful_of doubles ps work).answer ≡ done c k → NotWrong (grade_of doubles ps c)
    faithful_graded h =
        let d = done_is (faithful_of doubles ps work).answer c k h in
        let P = faithful_promised doubles_fit ps work G in
        let s : Done P.sum P.rounds ≡ Done d.0 k = sym P.answer ∙ d.1 in
        let x : P.sum ≡ d.0 = cc in
        rw (x, d.2) at (faithful_claim ps alone P.faithful)

    pub run_graded : (e : ℕ) (bs : List ℕ) → step_heard doubles (run_of doubles e ps work bs).walk.answer ≡ done c k → NotWrong (grade_of doubles ps c)
    run_graded e bs h =
        let d = done_is (run_of doubles e ps work bs).walk.answer c k h in
        rw d.2 at (faithful_claim ps alone (run_finishes doubles_fit e ps work G bs d.0 k d.1).faithful)
