-- The walk's three calls: each is refused exactly when its row says (rule O6), and a refused call leaves the work area as it was. An accepted
-- step answers no refusal, for any state that the gate lets pass; nor does the undivided call, for widths that fit. Assumes nothing.
use Rattle.std.specs.Prelude.{◌≡◌, ◌↔◌, List, ℕ, ◌^◌, eqb, pos, length, Float}
use Rattle.std.proofs.Math.Path.{refl, ap, subst}
use Rattle.std.proofs.Common.{sym, ◌∙◌, arith}
use Rattle.std.proofs.Math.Bool.{true}
use Rattle.ieee.specs.Units.{nearest_float}
use Rattle.lists.proofs.Apart.{apart}
use Rattle.kinds.specs.Limits.{Width}
use Rattle.kinds.specs.Outcome.{outcome}
use Rattle.kinds.specs.State.{State}
use Rattle.kinds.specs.Step.{Step}
use Rattle.kinds.specs.Step.{More, Done, Refused}
use Rattle.kinds.specs.Verdict.{Verdict}
use Rattle.kinds.specs.Verdict as verdicts
use Rattle.judge.specs.Judge.{judged, zero_sign}
use Rattle.judge.proofs.JudgeLaws.{list_when}
use Rattle.judge.specs.Table.{size_of}
use Rattle.sound.specs.Sound.{gated}
use Rattle.sound.proofs.GateLaws.{gated_21}
use Rattle.rounds.specs.Fitting.{Fitting}
use Rattle.walk.specs.NoRefusal.{verdict_of}
use Rattle.walk.proofs.NoRefusal.{fresh_accepted, taken_accepted}
use Rattle.walk.specs.Walk.{Walked, opened, opened_after, stepped, stepped_after, faithful_of}
use Rattle.walk.specs.OpeningLaws.{opened_refused}
use Rattle.walk.proofs.StepLaws.{stepped_refused}
use Rattle.walk.proofs.UndividedLaws as undivided
use Rattle.runs.proofs.Faithful.{faithful_promised}
use Rattle.demands.specs.SoundState.{SoundState}
use Rattle.demands.specs.Tables.{StepWhen, OfState, WalkWhen}
use Rattle.demands.proofs.TablesLaws.{step_when, sound_when}

-- ---- what the three share: the verdict that an answer comes from, and what a refusal leaves

-- a call gave the verdict v first
record After (v : Verdict) (work : List Float) (w : Walked) : Type 0 where
  from : verdict_of w.answer ≡ v
  kept : (k i : ℕ) → v ≡ verdicts.Refused k i → w.area ≡ work

back : (a : Step) (k i : ℕ) → (a ≡ Refused k i) ↔ (verdict_of a ≡ verdicts.Refused k i)
back (More s told) k i = (λ e. apart (cc), λ e. apart (cc))
back (Done x r) k i = (λ e. apart (cc), λ e. apart (cc))
back (Refused l j) k i = (λ e. cc, λ e. cc)

module _ {v : Verdict} {work : List Float} {w : Walked} (A : After v work w) where
  refusals : (When : Verdict → Type 0) → ((u : Verdict) → (v ≡ u) ↔ When u) → (k i : ℕ) → (w.answer ≡ Refused k i) ↔ When (verdicts.Refused k i)
  refusals When when k i = (
    λ e. (when (verdicts.Refused k i)).0 (sym A.from ∙ (back w.answer k i).0 e),
    λ h. (back w.answer k i).1 (A.from ∙ (when (verdicts.Refused k i)).1 h),
  )

  leaves : (k i : ℕ) → w.answer ≡ Refused k i → w.area ≡ work
  leaves k i e = A.kept k i (sym A.from ∙ (back w.answer k i).0 e)

  -- what the verdict accepts is answered by no refusal
  accepts : v ≡ verdicts.Good → (k i : ℕ) → w.answer ≡ Refused k i → ⊥
  accepts g k i e =
      let r : v ≡ verdicts.Refused k i = sym A.from ∙ (back w.answer k i).0 e in
      let z : ◌≡◌ {A = ℕ} 0 1 = cc in
      omega arith

-- ---- a block step

module _ (W : Width) (s : State) (e b : ℕ) (work : List Float) where
  step_after : (v : Verdict) → After v work (stepped_after W v s b work)
  unfolding stepped_after
  step_after verdicts.Good = record {
    from = (taken_accepted W s b work).good;
    kept = λ k i e. apart (cc);
  }
  step_after (verdicts.Refused l j) = record { from = refl; kept = λ k i e. refl }

  module _ (top : ℕ) (is : size_of W W.magnitude ≡ 2 ^ top) (k i : ℕ) where
    pub step_refused : ((stepped W s e b work).answer ≡ Refused k i) ↔ StepWhen W s e b work (verdicts.Refused k i)
    step_refused = refusals (step_after (gated W s e b work)) (StepWhen W s e b work) (step_when W top is s e b work) k i

    pub step_accepted : StepWhen W s e b work verdicts.Good → (stepped W s e b work).answer ≡ Refused k i → ⊥
    step_accepted h = accepts (step_after (gated W s e b work)) ((step_when W top is s e b work verdicts.Good).1 h) k i

  -- where the area has n numbers and the step names the state's ensemble, the state is sound exactly where it answers none of the refusals that are the
  -- state's
  pub step_sound : (top : ℕ) → size_of W W.magnitude ≡ 2 ^ top → length work ≡ s.n → e ≡ s.ensemble
      → SoundState W s work ↔ ((k i : ℕ) → OfState k → (stepped W s e b work).answer ≡ Refused k i → ⊥)
  step_sound top is l m =
      let sound = sound_when W top is s e b work l m in
      let given = step_when W top is s e b work in (
        λ S k i o h. sound.0 S k i o ((given (verdicts.Refused k i)).1 ((step_refused top is k i).0 h)),
        λ none. sound.1 (λ k i o h. none k i o ((step_refused top is k i).1 ((given (verdicts.Refused k i)).0 h))),
      )

  -- a step that names another ensemble is refused with 21, whatever else is wrong but the area's length
  pub step_stranger : length work ≡ s.n → (e ≡ s.ensemble → ⊥) → stepped W s e b work ≡ outcome (Refused 21 0) work
  step_stranger l n = sym (stepped_refused W s b work (gated W s e b work) 21 0 (gated_21 W s e b work l n))

  pub step_leaves : (k i : ℕ) → (stepped W s e b work).answer ≡ Refused k i → (stepped W s e b work).area ≡ work
  step_leaves = leaves (step_after (gated W s e b work))

-- ---- opening, and the undivided call: rule O1 without 5

module _ (W : Width) (ps : List ℕ) (work : List Float) where
  verdict : Verdict
  verdict = judged W (eqb (length work) (length ps)) true ps

  rows : (v : Verdict) → (verdict ≡ v) ↔ WalkWhen W ps work v
  unfolding verdict
  rows = list_when W (eqb (length work) (length ps)) true ps

  open_after : (e : ℕ) (v : Verdict) → After v work (opened_after W e v ps work)
  unfolding opened_after
  open_after e verdicts.Good = record {
    from = (fresh_accepted W (nearest_float W.format (zero_sign W ps) (pos 0)) (length ps) _ 0 e _).good;
    kept = λ k i e. apart (cc);
  }
  open_after e (verdicts.Refused l j) = record { from = refl; kept = λ k i e. refl }

  pub open_refused : (e k i : ℕ) → ((opened W e ps work).answer ≡ Refused k i) ↔ WalkWhen W ps work (verdicts.Refused k i)
  unfolding verdict
  open_refused e = refusals (open_after e verdict) (WalkWhen W ps work) rows

  pub open_leaves : (e k i : ℕ) → (opened W e ps work).answer ≡ Refused k i → (opened W e ps work).area ≡ work
  unfolding verdict
  open_leaves e = leaves (open_after e verdict)

  module _ (F : Fitting W) where
    faithful_after : (v : Verdict) → verdict ≡ v → After v work (faithful_of W ps work)
    unfolding verdict
    faithful_after verdicts.Good e = record {
      from = ap verdict_of (faithful_promised F ps work ((rows verdicts.Good).0 e)).answer;
      kept = λ k i e. apart (cc);
    }
    faithful_after (verdicts.Refused l j) e =
        subst (After (verdicts.Refused l j) work)
        (undivided.faithful_refused F 0 ps work (Refused l j) work (opened_refused W 0 verdict l j ps work e) l j refl)
        (record { from = refl; kept = λ k i e. refl })

    pub faithful_refused : (k i : ℕ) → ((faithful_of W ps work).answer ≡ Refused k i) ↔ WalkWhen W ps work (verdicts.Refused k i)
    faithful_refused = refusals (faithful_after verdict refl) (WalkWhen W ps work) rows

    pub faithful_leaves : (k i : ℕ) → (faithful_of W ps work).answer ≡ Refused k i → (faithful_of W ps work).area ≡ work
    faithful_leaves = leaves (faithful_after verdict refl)
