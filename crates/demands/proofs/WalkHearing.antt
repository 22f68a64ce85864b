-- What is heard of a width's nearest sum and of its walk: a refusal with its number is heard exactly when its row says, with the place for 2, 3 and 19 and
-- nothing more for the others. Assumes nothing.
use Rattle.std.specs.Prelude.{◌≡◌, refl, ◌↔◌, true, List, ℕ, Float}
use Rattle.std.proofs.Common.{inr}
use Rattle.kinds.specs.Heard.{Place, refused, place_of, told, Row, step_heard, nearest_heard}
use Rattle.kinds.proofs.Hearing.{step_is, nearest_is, hears, placed}
use Rattle.kinds.specs.Limits.{Width}
use Rattle.kinds.specs.State.{State}
use Rattle.kinds.specs.Verdict as verdicts
use Rattle.kinds.specs.Step as steps
use Rattle.kinds.specs.Nearest as nearests
use Rattle.judge.specs.Table.{ListWhen}
use Rattle.judge.proofs.JudgeLaws.{list_refusal}
use Rattle.sums.specs.Sums.{nearest_of}
use Rattle.sums.proofs.Promised.{nearest_refusals}
use Rattle.rounds.specs.Fitting.{Fitting}
use Rattle.walk.specs.Walk.{opened, stepped, faithful_of}
use Rattle.demands.specs.Tables as tables
use Rattle.demands.specs.Tables.{StepWhen, WalkWhen}
use Rattle.demands.proofs.WalkRefusals.{open_refused, faithful_refused, step_refused}

module _ (W : Width) (ps : List ℕ) where
  pub nearest_heard_lem : (k : ℕ) (p : Place)
      → (nearest_heard W (nearest_of W ps) ≡ refused k p) ↔ Row (λ k i. ListWhen W true true ps (verdicts.Refused k i)) k p
  nearest_heard_lem = hears (nearest_heard W) nearests.Refused (λ k i. refl) (nearest_of W ps) (nearest_is W (nearest_of W ps))
      (λ k i. ListWhen W true true ps (verdicts.Refused k i)) (nearest_refusals W ps) (λ k i h. (list_refusal h).as_told)

  module _ (work : List Float) where
    pub open_heard : (e k : ℕ) (p : Place) → (step_heard W (opened W e ps work).answer ≡ refused k p)
        ↔ Row (λ k i. WalkWhen W ps work (verdicts.Refused k i)) k p
    open_heard e = hears (step_heard W) steps.Refused (λ k i. refl) (opened W e ps work).answer (step_is W (opened W e ps work).answer)
        (λ k i. WalkWhen W ps work (verdicts.Refused k i)) (open_refused W ps work e) (λ k i h. (list_refusal h).as_told)

    pub faithful_heard_lem : Fitting W → (k : ℕ) (p : Place) → (step_heard W (faithful_of W ps work).answer ≡ refused k p)
        ↔ Row (λ k i. WalkWhen W ps work (verdicts.Refused k i)) k p
    faithful_heard_lem F = hears (step_heard W) steps.Refused (λ k i. refl) _ (step_is W (faithful_of W ps work).answer)
        (λ k i. WalkWhen W ps work (verdicts.Refused k i)) (faithful_refused W ps work F) (λ k i h. (list_refusal h).as_told)

-- ---- a step: 19 has its place, and any other number place 0

pub step_heard_lem : {W : Width} → Fitting W → (s : State) (e b : ℕ) (work : List Float) (k : ℕ) (p : Place)
    → (step_heard W (stepped W s e b work).answer ≡ refused k p) ↔ Row (λ k i. StepWhen W s e b work (verdicts.Refused k i)) k p
step_heard_lem {W} F s e b work = hears (step_heard W) steps.Refused (λ k i. refl) _ (step_is W (stepped W s e b work).answer)
    (λ k i. StepWhen W s e b work (verdicts.Refused k i)) (step_refused W s e b work F.top F.top_is) (λ k i h. as_told h)
  where
    as_told : {k i : ℕ} → StepWhen W s e b work (verdicts.Refused k i) → place_of k i ≡ told k i
    as_told (tables.wrong_length n) = refl
    as_told (tables.other_ensemble l n) = refl
    as_told (tables.unsound_numbers l m n) = refl
    as_told (tables.unsound_set l m N n) = refl
    as_told (tables.unsound_place l m N S i F) = placed 19 i (inr tt)
    as_told (tables.no_block l m S h) = refl
    as_told (tables.taken_before_lem l m S h p) = refl
