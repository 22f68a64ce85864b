-- Rules D1, O6 and K1 for the four calls at binary32, a line each: a refusal is given, and heard, exactly when its row says, it leaves the lent area, and any
-- two results that meet a contract are equal. Assumes nothing.
use Rattle.std.specs.Prelude.{◌≡◌, ◌↔◌, true, List, ℕ, length, Float, Result}
use Rattle.std.proofs.Common.{sym, ◌∙◌}
use Rattle.kinds.specs.Limits.{singles}
use Rattle.kinds.specs.Outcome.{Outcome, outcome}
use Rattle.kinds.proofs.OutcomeLaws.{determined}
use Rattle.kinds.specs.Heard.{Place, refused, Row, step_heard, nearest_heard}
use Rattle.kinds.specs.Step as steps
use Rattle.kinds.specs.Verdict as verdicts
use Rattle.kinds.specs.Nearest as nearests
use Rattle.kinds.specs.declared.refusal.Refusal.{Refusal}
use Rattle.kinds.specs.declared.state.State.{State}
use Rattle.kinds.specs.declared.state.Step.{Step}
use Rattle.kinds.specs.Answers.{itself, as_state, as_step, as_nearest}
use Rattle.kinds.proofs.AnswersLaws.{step_same, nearest_same}
use Rattle.judge.specs.Table.{ListWhen}
use Rattle.sums.specs.Sums.{nearest_of}
use Rattle.sums.proofs.Promised.{nearest_refusals}
use Rattle.rounds.specs.Instances.{singles_fit}
use Rattle.walk.specs.Walk.{opened, stepped, faithful_of}
use Rattle.walk.specs.declared.sum.Sum.{Sum}
use Rattle.walk.specs.Sums.{as_faithful}
use Rattle.walk.proofs.SumsLaws.{faithful_same}
use Rattle.demands.specs.SoundState.{SoundState}
use Rattle.demands.specs.Tables.{StepWhen, OfState, WalkWhen}
use Rattle.demands.proofs.WalkRefusals as walks
use Rattle.demands.proofs.WalkHearing as hearing

-- ---- sums::nearest

module _ (ps : List ℕ) where
  pub nearest_refused : (k i : ℕ) → (nearest_of singles ps ≡ nearests.Refused k i) ↔ ListWhen singles true true ps (verdicts.Refused k i)
  nearest_refused = nearest_refusals singles ps

  pub nearest_heard_lem : (k : ℕ) (p : Place) → (nearest_heard singles (nearest_of singles ps) ≡ refused k p)
      ↔ Row (λ k i. ListWhen singles true true ps (verdicts.Refused k i)) k p
  nearest_heard_lem = hearing.nearest_heard_lem singles ps

  pub nearest_determined : {r q : Result Float Refusal} → as_nearest itself r ≡ nearest_of singles ps → as_nearest itself q ≡ nearest_of singles ps → r ≡ q
  nearest_determined {r} {q} e f = nearest_same r q (e ∙ sym f)

-- ---- walk::open, walk::faithful

-- what a contract says of the answer and the area determines both
both : (w : Outcome steps.Step Float) {r q : Result (Step Float) Refusal} {xs ys : List Float} → outcome (as_step itself r) xs ≡ w
    → outcome (as_step itself q) ys ≡ w
    → (r ≡ q) × (xs ≡ ys)
both w {r} {q} e f = let d = determined w e f in (step_same r q d.0, d.1)

module _ (ps : List ℕ) (work : List Float) where
  module _ (k i : ℕ) where
    pub open_refused : (e : ℕ) → ((opened singles e ps work).answer ≡ steps.Refused k i) ↔ WalkWhen singles ps work (verdicts.Refused k i)
    open_refused e = walks.open_refused singles ps work e k i

    pub open_leaves : (e : ℕ) → (opened singles e ps work).answer ≡ steps.Refused k i → (opened singles e ps work).area ≡ work
    open_leaves e = walks.open_leaves singles ps work e k i

    pub faithful_refused : ((faithful_of singles ps work).answer ≡ steps.Refused k i) ↔ WalkWhen singles ps work (verdicts.Refused k i)
    faithful_refused = walks.faithful_refused singles ps work singles_fit k i

    pub faithful_leaves : (faithful_of singles ps work).answer ≡ steps.Refused k i → (faithful_of singles ps work).area ≡ work
    faithful_leaves = walks.faithful_leaves singles ps work singles_fit k i

  pub open_heard : (e k : ℕ) (p : Place) → (step_heard singles (opened singles e ps work).answer ≡ refused k p)
      ↔ Row (λ k i. WalkWhen singles ps work (verdicts.Refused k i)) k p
  open_heard = hearing.open_heard singles ps work

  pub faithful_heard_lem : (k : ℕ) (p : Place) → (step_heard singles (faithful_of singles ps work).answer ≡ refused k p)
      ↔ Row (λ k i. WalkWhen singles ps work (verdicts.Refused k i)) k p
  faithful_heard_lem = hearing.faithful_heard_lem singles ps work singles_fit

  module _ {r q : Result (Step Float) Refusal} {xs ys : List Float} where
    pub open_determined : (e : ℕ) → outcome (as_step itself r) xs ≡ opened singles e ps work → outcome (as_step itself q) ys ≡ opened singles e ps work
        → (r ≡ q) × (xs ≡ ys)
    open_determined e = both (opened singles e ps work)

  pub faithful_determined : {r q : Result (Sum Float) Refusal} {xs ys : List Float} → outcome (as_faithful itself r) xs ≡ faithful_of singles ps work
      → outcome (as_faithful itself q) ys ≡ faithful_of singles ps work → (r ≡ q) × (xs ≡ ys)
  faithful_determined {r} {q} h k = let d = determined (faithful_of singles ps work) h k in (faithful_same r q d.0, d.1)

-- ---- walk::step

module _ (s : State Float) (e b : ℕ) (work : List Float) where
  module _ (k i : ℕ) where
    pub step_refused : ((stepped singles (as_state itself s) e b work).answer ≡ steps.Refused k i) ↔ StepWhen singles (as_state itself s) e b work
        (verdicts.Refused k i)
    step_refused = walks.step_refused singles (as_state itself s) e b work singles_fit.top singles_fit.top_is k i

    pub step_leaves : (stepped singles (as_state itself s) e b work).answer ≡ steps.Refused k i → (stepped singles (as_state itself s) e b work).area ≡ work
    step_leaves = walks.step_leaves singles (as_state itself s) e b work k i

  pub step_heard_lem : (k : ℕ) (p : Place) → (step_heard singles (stepped singles (as_state itself s) e b work).answer ≡ refused k p)
      ↔ Row (λ k i. StepWhen singles (as_state itself s) e b work (verdicts.Refused k i)) k p
  step_heard_lem = hearing.step_heard_lem singles_fit (as_state itself s) e b work

  pub step_sound : length work ≡ s.n → e ≡ s.ensemble
      → SoundState singles (as_state itself s) work ↔ ((k i : ℕ) → OfState k → (stepped singles (as_state itself s) e b work).answer ≡ steps.Refused k i → ⊥)
  step_sound = walks.step_sound singles (as_state itself s) e b work singles_fit.top singles_fit.top_is

  pub step_determined : {r q : Result (Step Float) Refusal} {xs ys : List Float}
      → outcome (as_step itself r) xs ≡ stepped singles (as_state itself s) e b work
      → outcome (as_step itself q) ys ≡ stepped singles (as_state itself s) e b work → (r ≡ q) × (xs ≡ ys)
  step_determined = both (stepped singles (as_state itself s) e b work)
