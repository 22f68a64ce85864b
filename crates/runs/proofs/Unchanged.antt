-- Rule DR6: in every run, whatever blocks it asks for, and in the undivided walk, the largest remainder that a state keeps changes
-- nothing: sums, rounds, remainders, states and accepted steps are those of the walk as it was before, `walk/Before`. Assumes nothing.
use Rattle.std.specs.Prelude.{◌≡◌, true, eqb, length, Float}
use Rattle.std.proofs.Math.Path.{refl, ap}
use Rattle.std.proofs.Common.{sym, ◌∙◌, inl, inr}
use mathlib.Core.List.{List, [], ◌∷◌, foldl}
use Prim.Native.Nat.{ℕ, zero, suc}
use Rattle.ieee.specs.Units.{magnitude}
use Rattle.lists.specs.Bitset.{has}
use Rattle.kinds.specs.Limits.{Width, blocks_of}
use Rattle.kinds.specs.Outcome.{outcome}
use Rattle.kinds.specs.State.{State}
use Rattle.kinds.specs.Step.{Step}
use Rattle.kinds.specs.Step.{More, Done, Refused}
use Rattle.kinds.specs.Verdict.{Verdict}
use Rattle.kinds.specs.Verdict.{Good}
use Rattle.kinds.specs.Verdict as verdicts
use Rattle.judge.specs.Judge.{judged}
use Rattle.judge.specs.Table.{ListWhen}
use Rattle.judge.proofs.JudgeLaws.{list_when}
use Rattle.extract.specs.Extract.{plus_zero, largest}
use Rattle.sound.specs.Sound.{sound_largest, gated}
use Rattle.sound.proofs.SoundLaws.{largest_true}
use Rattle.sound.proofs.GateLaws.{gated_open}
use Rattle.rounds.specs.Round.{turned, in_round, taken_state, all_taken, all_left}
use Rattle.rounds.specs.Fitting.{Fitting}
use Rattle.rounds.specs.Begun.{largest_left}
use Rattle.walk.specs.Walk.{Walked, opened, onward, rising, rounds_from, stepped, faithful_of}
use Rattle.walk.specs.Before.{stepped_before, onward_before, rounds_before, faithful_before, forgetful, forgotten_answer, forgotten}
use Rattle.walk.proofs.BeforeLaws.{stepped_before_lem}
use Rattle.walk.specs.OpeningLaws.{opened_refused}
use Rattle.walk.specs.Run.{run_refused}
use Rattle.walk.proofs.StepLaws.{stepped_good, stepped_refused}
use Rattle.walk.specs.Told.{Tells}
use Rattle.walk.proofs.Told.{opened_tells}
use Rattle.runs.specs.Taken.{mid_area}
use Rattle.runs.proofs.OneBlock.{own_block}
use Rattle.runs.proofs.MidRound.{mid_takes, mid_stepping}
use Rattle.runs.proofs.MidStep.{all_left_lem, last_largest, there, step_state}
use Rattle.runs.specs.Runs.{Ran, heeded, tried, run_of, tried_before, run_before, forgotten_run}
use Rattle.runs.proofs.Reached.{During, Reached, reached_opens, reached_step}
use Rattle.runs.proofs.GoingLaws.{accepted_walk}
use Rattle.runs.proofs.Faithful.{faithful_promised}

module _ {W : Width} (F : Fitting W) (k : ℕ) (ps : List ℕ) (work : List Float) where
  -- ---- a step of a run, at any block
  module _ (r : Ran) (D : During W F k ps work r) (b : ℕ) where
    abbrev at : State
    at = in_round D.first D.tau D.largest D.pending

    abbrev area : List Float
    area = mid_area W D.first D.pending D.xs

    sound : sound_largest W at.sigma at.largest ≡ true
    sound = largest_true W at.sigma at.largest (mid_stepping D.summing.begun D.mid D.some).numbers.largest

    -- at a close the kept number is the largest magnitude of the area
    closing : gated W at k b area ≡ Good → (taken_state W at b area).pending ≡ 0
        → magnitude W.format (taken_state W at b area).largest ≡ largest W.format (turned W at.sigma b area)
    closing g z = rw (kept, left) (largest_left D.summing.begun).units
      where
        taken : has D.pending b ≡ true
        taken = (gated_open W at k b area g).pending

        kept : (taken_state W at b area).largest ≡ (all_taken W D.first D.xs).largest
        kept =
            ap (λ (q : State). q.largest) (step_state D.summing.begun D.mid b taken)
            ∙ last_largest D.summing.begun (rw z at (mid_takes D.summing.begun D.mid b taken))

        left : turned W at.sigma b area ≡ all_left W D.first D.xs
        left =
            own_block W F.block D.xs b (there D.summing.begun D.mid b taken) D.pending taken D.first.sigma
            ∙ ap (λ (P : ℕ). mid_area W D.first P D.xs) z
            ∙ all_left_lem D.summing.begun

    step_same : stepped_before W (forgetful W at) k b area ≡ forgotten W (stepped W at k b area)
    step_same = stepped_before_lem W at b area k sound closing

  heeded_same : (r : Ran) (w : Walked) → heeded (forgotten_run W r) (forgotten W w) ≡ forgotten_run W (heeded r w)
  heeded_same r w = by w.answer w.area
    where
      by : (a : Step) (xs : List Float) → heeded (forgotten_run W r) (forgotten W (outcome a xs)) ≡ forgotten_run W (heeded r (outcome a xs))
      by (More s told) xs = refl
      by (Done x n) xs = refl
      by (Refused l p) xs = refl

  tried_same : (r : Ran) → Reached W F k ps work r → (b : ℕ) → tried_before W k (forgotten_run W r) b ≡ forgotten_run W (tried W k r b)
  tried_same r (inl D) b =
      let at = in_round D.first D.tau D.largest D.pending in
      let area = mid_area W D.first D.pending D.xs in
      let e : r ≡ record { walk = outcome (More at D.told) area; steps = r.steps } = λ i. record { walk = D.walk i; steps = r.steps } in
      (λ i. tried_before W k (forgotten_run W (e i)) b)
      ∙ ap (heeded (forgotten_run W (record { walk = outcome (More at D.told) area; steps = r.steps }))) (step_same r D b)
      ∙ heeded_same (record { walk = outcome (More at D.told) area; steps = r.steps }) (stepped W at k b area)
      ∙ (λ i. forgotten_run W (tried W k (sym e i) b))
  tried_same r (inr O) b = rw O.answer

  run_same : (bs : List ℕ) (r : Ran) → Reached W F k ps work r → foldl (tried_before W k) (forgotten_run W r) bs ≡ forgotten_run W (foldl (tried W k) r bs)
  run_same [] r R = refl
  run_same (b ∷ bs) r R =
      ap (λ (q : Ran). foldl (tried_before W k) q bs) (tried_same r R b) ∙ run_same bs (tried W k r b) (reached_step W F k ps work r R b)

  -- an opening keeps and tells +0
  opened_same : opened W k ps work ≡ forgotten W (opened W k ps work)
  opened_same = by (opened W k ps work).answer (opened_tells W k ps work)
    where
      by : (a : Step) → Tells (plus_zero W.format) (plus_zero W.format) a
          → outcome a (opened W k ps work).area ≡ forgotten W (outcome a (opened W k ps work).area)
      by (More s told) t = λ i. outcome (More (in_round s s.tau (t.1 i) s.pending) (t.0 i)) (opened W k ps work).area
      by (Done x r) t = refl
      by (Refused l p) t = refl

  -- a list that is refused has no run: nothing is tried after its opening
  refused_same : (l p : ℕ) → (opened W k ps work).answer ≡ Refused l p → (bs : List ℕ)
      → foldl (tried_before W k) (record { walk = opened W k ps work; steps = 0 }) bs ≡ forgotten_run W (run_of W k ps work bs)
  refused_same l p e bs = rw (before bs, now bs) (λ i. record { walk = opened_same i; steps = 0 })
    where
      start : Ran
      start = record { walk = opened W k ps work; steps = 0 }

      before : (bs : List ℕ) → foldl (tried_before W k) start bs ≡ start
      before [] = refl
      before (b ∷ bs) = ap (λ (r : Ran). foldl (tried_before W k) r bs) (rw e) ∙ before bs

      now : (bs : List ℕ) → foldl (tried W k) start bs ≡ start
      now [] = refl
      now (b ∷ bs) = ap (λ (r : Ran). foldl (tried W k) r bs) (rw e) ∙ now bs

  -- the opening of any list is refused, or reached
  opening_way : (A : Type 0) → ((l p : ℕ) → opened W k ps work ≡ outcome (Refused l p) work → A)
      → (ListWhen W (eqb (length work) (length ps)) true ps Good → A) → A
  opening_way A refusal allowed = by (judged W (eqb (length work) (length ps)) true ps) refl
    where
      by : (v : Verdict) → judged W (eqb (length work) (length ps)) true ps ≡ v → A
      by Good g = allowed ((list_when W (eqb (length work) (length ps)) true ps Good).0 g)
      by (verdicts.Refused l p) g = refusal l p (sym (opened_refused W k _ l p ps work g))

  pub unchanged : (bs : List ℕ) → run_before W k ps work bs ≡ forgotten_run W (run_of W k ps work bs)
  unchanged bs = opening_way _ (λ l p e. refused_same l p (ap (λ (w : Walked). w.answer) e) bs)
      (λ G. ap (λ (w : Walked). foldl (tried_before W k) (record { walk = w; steps = 0 }) bs) opened_same
      ∙ run_same bs (record { walk = opened W k ps work; steps = 0 }) (reached_opens W F k ps work G))

  -- ---- the undivided walk: reached by a run, or refused
  data Way (w : Walked) : Type 0 where
    reached : (r : Ran) → Reached W F k ps work r → r.walk ≡ w → Way w
    refused : (l p : ℕ) (xs : List Float) → w ≡ outcome (Refused l p) xs → Way w

  named : (r : Ran) (D : During W F k ps work r) (b : ℕ)
      → onward W (outcome (More (at r D b) D.told) (area r D b)) b ≡ stepped W (at r D b) k b (area r D b)
  named r D b = λ i. stepped W (at r D b) (D.named i) b (area r D b)

  onward_same : (w : Walked) → Way w → (b : ℕ) → onward_before W (forgotten W w) b ≡ forgotten W (onward W w b)
  onward_same w (refused l p xs e) b = rw e
  onward_same w (reached r (inr O) e) b = rw (sym e ∙ whole)
    where
      whole : r.walk ≡ outcome (Done O.sum O.rounds) r.walk.area
      whole = λ i. outcome (O.answer i) r.walk.area
  onward_same w (reached r (inl D) e) b =
      let here = sym e ∙ D.walk in
      (λ i. onward_before W (forgotten W (here i)) b)
      ∙ (λ i. stepped_before W (forgetful W (at r D b)) (D.named i) b (area r D b))
      ∙ step_same r D b
      ∙ (λ i. forgotten W (sym (named r D b) i))
      ∙ (λ i. forgotten W (onward W (sym here i) b))

  onward_way : (w : Walked) → Way w → (b : ℕ) → Way (onward W w b)
  onward_way w (refused l p xs e) b = refused l p xs (rw e)
  onward_way w (reached r (inr O) e) b = reached r (inr O) (e ∙ sym still)
    where
      still : onward W w b ≡ w
      still = rw (sym e ∙ (λ i. outcome (O.answer i) r.walk.area))
  onward_way w (reached r (inl D) e) b = by (gated W (at r D b) k b (area r D b)) refl
    where
      here : onward W w b ≡ stepped W (at r D b) k b (area r D b)
      here = (λ i. onward W ((sym e ∙ D.walk) i) b) ∙ named r D b

      by : (v : Verdict) → gated W (at r D b) k b (area r D b) ≡ v → Way (onward W w b)
      by Good g =
          reached (tried W k r b) (reached_step W F k ps work r (inl D) b)
          (accepted_walk W k r (at r D b) D.told (area r D b) b D.walk g
          ∙ stepped_good W (at r D b) b (area r D b) (gated W (at r D b) k b (area r D b)) g
          ∙ sym here)
      by (verdicts.Refused l p) g =
          refused l p (area r D b) (here ∙ sym (stepped_refused W (at r D b) b (area r D b) (gated W (at r D b) k b (area r D b)) l p g))

  blocks_same : (bs : List ℕ) (w : Walked) → Way w
      → (foldl (onward_before W) (forgotten W w) bs ≡ forgotten W (foldl (onward W) w bs)) × Way (foldl (onward W) w bs)
  blocks_same [] w R = (refl, R)
  blocks_same (b ∷ bs) w R =
      let rest = blocks_same bs (onward W w b) (onward_way w R b) in
      (ap (λ (v : Walked). foldl (onward_before W) v bs) (onward_same w R b) ∙ rest.0, rest.1)

  rounds_same : (B j : ℕ) (w : Walked) → Way w → rounds_before W B j (forgotten W w) ≡ forgotten W (rounds_from W B j w)
  unfolding rounds_before rounds_from
  rounds_same B zero w R = refl
  rounds_same B (suc j) w R =
      let round = blocks_same (rising B) w R in
      ap (rounds_before W B j) round.0 ∙ rounds_same B j (foldl (onward W) w (rising B)) round.1

  rounds_forgotten : Way (opened W k ps work) → (B j : ℕ) → rounds_before W B j (opened W k ps work) ≡ forgotten W (rounds_from W B j (opened W k ps work))
  rounds_forgotten R B j = ap (rounds_before W B j) opened_same ∙ rounds_same B j (opened W k ps work) R

-- the undivided call: its answer is a sum or a refusal, of which nothing is forgotten
pub undivided_unchanged : {W : Width} (F : Fitting W) (ps : List ℕ) (work : List Float) → faithful_before W ps work ≡ faithful_of W ps work
undivided_unchanged {W} F ps work = opening_way F 0 ps work _ none summed
  where
    B : ℕ
    B = blocks_of W (length ps)

    none : (l p : ℕ) → opened W 0 ps work ≡ outcome (Refused l p) work → faithful_before W ps work ≡ faithful_of W ps work
    none l p e =
        rounds_forgotten F 0 ps work (refused l p work e) B (suc W.rounds)
        ∙ rw (e, run_refused W B (suc W.rounds) l p work)

    summed : ListWhen W (eqb (length work) (length ps)) true ps Good → faithful_before W ps work ≡ faithful_of W ps work
    summed G =
        let P = faithful_promised F ps work G in
        rounds_forgotten F 0 ps work (reached (record { walk = opened W 0 ps work; steps = 0 }) (reached_opens W F 0 ps work G) refl) B (suc W.rounds)
        ∙ (λ i. outcome (forgotten_answer W (P.answer i)) (faithful_of W ps work).area)
        ∙ (λ i. outcome (sym P.answer i) (faithful_of W ps work).area)
