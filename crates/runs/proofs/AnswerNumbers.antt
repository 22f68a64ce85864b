-- What the undivided call answers, whatever list and work area it is handed: never a state; only a sum that is a number, so that its bits may be read,
-- after at most as many rounds as rule WR3 has; and only a refusal of the table. Assumes nothing.
use Rattle.std.specs.Prelude.{◌≡◌, refl, true, not, List, ℕ, suc, ◌≤◌, T, eqb, length, Float}
use Rattle.std.proofs.Common.{sym, ap, subst}
use Rattle.std.specs.Float.Ieee.{is_nan}
use Rattle.ieee.specs.Units.{Number}
use Rattle.ieee.proofs.Finite.{finite_no_nan}
use Rattle.kinds.specs.Limits.{Width}
use Rattle.kinds.specs.Heard.{Refusal}
use Rattle.kinds.specs.State.{State}
use Rattle.kinds.specs.Step.{Step}
use Rattle.kinds.specs.Step.{More, Done, Refused}
use Rattle.kinds.specs.Verdict.{Verdict}
use Rattle.kinds.specs.Verdict as verdicts
use Rattle.judge.specs.Judge.{judged}
use Rattle.judge.proofs.JudgeLaws.{list_when, list_refusal}
use Rattle.rounds.specs.Fitting.{Fitting}
use Rattle.walk.specs.Walk.{Walked, faithful_of}
use Rattle.walk.specs.OpeningLaws.{opened_refused}
use Rattle.walk.proofs.UndividedLaws.{faithful_refused}
use Rattle.runs.proofs.Faithful.{faithful_promised}

-- an answer of the undivided call
abbrev Ended : Width → Step → Type 0
Ended W (More s told) = ⊥
Ended W (Done x r) = Number W.format x × (r ≤ suc W.rounds)
Ended W (Refused k p) = Refusal W.length k p

faithful_ended : {W : Width} (F : Fitting W) (ps : List ℕ) (work : List Float) → Ended W (faithful_of W ps work).answer
faithful_ended {W} F ps work = by (judged W (eqb (length work) (length ps)) true ps) refl
  where
    by : (v : Verdict) → judged W (eqb (length work) (length ps)) true ps ≡ v → Ended W (faithful_of W ps work).answer
    by verdicts.Good g =
        let S = faithful_promised F ps work ((list_when W (eqb (length work) (length ps)) true ps verdicts.Good).0 g) in
        subst (Ended W) (sym S.answer) (S.faithful.number, S.most)
    by (verdicts.Refused k p) g =
        let w = faithful_refused F 0 ps work (Refused k p) work (opened_refused W 0 _ k p ps work g) k p refl in
        subst (Ended W) (ap (λ (w : Walked). w.answer) w) (list_refusal ((list_when W _ true ps (verdicts.Refused k p)).0 g))

module _ {W : Width} (F : Fitting W) (ps : List ℕ) (work : List Float) where
  -- the undivided call never answers more
  pub faithful_not_more : (s : State) (told : Float) → (faithful_of W ps work).answer ≡ More s told → ⊥
  faithful_not_more s told e = subst (Ended W) e (faithful_ended F ps work)

  -- a refusal's number is of the table, its place is one of a list, and is told as the table says
  pub faithful_refusal : (k p : ℕ) → (faithful_of W ps work).answer ≡ Refused k p → Refusal W.length k p
  faithful_refusal k p e = subst (Ended W) e (faithful_ended F ps work)

  module _ {x : Float} {r : ℕ} (e : (faithful_of W ps work).answer ≡ Done x r) where
    done : Number W.format x × (r ≤ suc W.rounds)
    done = subst (Ended W) e (faithful_ended F ps work)

    pub faithful_number : Number W.format x
    faithful_number = done.0

    pub faithful_no_nan : T (not (is_nan x))
    faithful_no_nan = finite_no_nan x done.0.fini

    -- rule WR3: never above 51, and at binary32 never above 20
    pub faithful_rounds : r ≤ suc W.rounds
    faithful_rounds = done.1
