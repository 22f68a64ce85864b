-- The number of an ensemble decides nothing but which steps are refused with 21: a walk under one number is the walk under another, but for the number that its
-- states have; and that number stays through steps, closes and restarts. Assumes nothing.
use Rattle.std.specs.Prelude.{◌≡◌, Bool, eqb, length, pos, Float}
use Rattle.std.proofs.Math.Path.{refl, ap}
use Rattle.std.proofs.Common.{◌∙◌}
use Rattle.std.proofs.Math.Bool.{true, false, cond}
use mathlib.Core.List.{List, [], ◌∷◌, foldl}
use Prim.Native.Nat.{ℕ, zero, suc, ◌+◌}
use borrow.Author.Tests.{eq-eqb}
use Rattle.std.specs.Float.Ieee.{eq}
use Rattle.ieee.specs.Units.{magnitude, nearest_float}
use Rattle.kinds.specs.Limits.{Width, blocks_of}
use Rattle.kinds.specs.Outcome.{outcome}
use Rattle.kinds.specs.State.{State}
use Rattle.kinds.specs.Step.{Step}
use Rattle.kinds.specs.Step.{More, Done, Refused}
use Rattle.kinds.specs.Verdict.{Verdict}
use Rattle.kinds.specs.Verdict as verdicts
use Rattle.judge.specs.Judge.{judged, floats, zero_sign}
use Rattle.extract.specs.Extract.{plus_zero, largest}
use Rattle.sound.specs.Sound.{sound_numbers, sound_pending, sound_place, bad_place, gated}
use Rattle.rounds.specs.Round.{turned, taken_state, fresh_round, fresh, finished, closed, closed_by}
use Rattle.rounds.specs.ClosedLaws.{tau1_of, finishes, further_round, fresh_each, closed_each}
use Rattle.walk.specs.Walk.{Walked, opened_after, opened, taken, stepped_after, stepped, onward, rising, rounds_from, undivided_of}
use Rattle.walk.specs.Ensembles.{under, answer_under, walk_under, Named}

module _ (W : Width) where
  fresh_named : (none : Float) (n mu rounds k : ℕ) (told : Float) → Named k (fresh W none n mu rounds k told)
  fresh_named none n mu rounds k told = fresh_each (Named k) W none n mu rounds k told (λ a. tt) (λ a. refl)

  closed_named : (s : State) (xs : List Float) → Named s.ensemble (closed W s xs)
  closed_named s xs =
      closed_each (Named s.ensemble) W (magnitude W.format s.largest) s xs
      (λ z. fresh_named (plus_zero W.format) s.n _ (s.rounds + 1) s.ensemble s.largest) (λ z r. tt) (λ z r. refl)

  taken_named : (s : State) (b : ℕ) (xs : List Float) → Named s.ensemble (taken W s b xs).answer
  unfolding taken
  taken_named s b xs = by (eqb (taken_state W s b xs).pending 0)
    where
      by : (c : Bool) → Named s.ensemble (cond c (closed W (taken_state W s b xs) (turned W s.sigma b xs))
          (More (taken_state W s b xs) (taken_state W s b xs).largest))
      by true = closed_named (taken_state W s b xs) (turned W s.sigma b xs)
      by false = refl

  pub stepped_named : (s : State) (k b : ℕ) (xs : List Float) → Named s.ensemble (stepped W s k b xs).answer
  unfolding stepped_after
  stepped_named s k b xs = by (gated W s k b xs)
    where
      by : (v : Verdict) → Named s.ensemble (stepped_after W v s b xs).answer
      by verdicts.Good = taken_named s b xs
      by (verdicts.Refused l p) = tt

  pub opened_named : (k : ℕ) (ps : List ℕ) (work : List Float) → Named k (opened W k ps work).answer
  unfolding opened_after
  opened_named k ps work = by (judged W (eqb (length work) (length ps)) true ps)
    where
      by : (v : Verdict) → Named k (opened_after W k v ps work).answer
      by verdicts.Good = fresh_named (nearest_float W.format (zero_sign W ps) (pos 0)) (length ps) _ 0 k (plus_zero W.format)
      by (verdicts.Refused l p) = tt

-- ---- the walk under another number
module _ (W : Width) (k : ℕ) where
  -- a sum or a state, by a test; and by another one which of two such
  either : (c : Bool) (x : Float) (r : ℕ) (s : State) (m : Float) → cond c (Done x r) (More (under k s) m) ≡ answer_under k (cond c (Done x r) (More s m))
  either true x r s m = refl
  either false x r s m = refl

  any : (c : Bool) (a b a' b' : Step) → a' ≡ answer_under k a → b' ≡ answer_under k b → cond c a' b' ≡ answer_under k (cond c a b)
  any true a b a' b' p q = p
  any false a b a' b' p q = q

  -- ---- a step
  same_place : (s : State) (xs : List Float) → bad_place W (under k s) xs ≡ bad_place W s xs
  unfolding bad_place
  same_place s [] = refl
  same_place s (x ∷ xs) = ap (λ (n : ℕ). cond (sound_place W s x) (n + 1) 0) (same_place s xs)

  gated_under : (s : State) (b : ℕ) (xs : List Float) → gated W (under k s) k b xs ≡ gated W s s.ensemble b xs
  unfolding gated sound_numbers sound_pending
  gated_under s b xs = rw (eq-eqb k k refl, eq-eqb s.ensemble s.ensemble refl, same_place s xs)

  closed_under : (s : State) (xs : List Float) → closed W (under k s) xs ≡ answer_under k (closed W s xs)
  unfolding closed_by fresh
  closed_under s xs =
      let mu = magnitude W.format s.largest in
      let none = plus_zero W.format in
      let sum = finished W.format (tau1_of W s) s.t s.tau xs in
      let r = s.rounds + 1 in
      let first = fresh_round W s.n mu r s.ensemble in
      let m = s.largest in
      any (eq (tau1_of W s) none) (cond (eqb mu 0) (Done none r) (More first m)) (cond (finishes W s) (Done sum r) (More (further_round W s) m)) _ _
      (either (eqb mu 0) none r first m) (either (finishes W s) sum r (further_round W s) m)

  taken_under : (s : State) (b : ℕ) (xs : List Float) → taken W (under k s) b xs ≡ walk_under k (taken W s b xs)
  unfolding taken
  taken_under s b xs =
      let next = taken_state W s b xs in
      let ys = turned W s.sigma b xs in
      ap (λ (a : Step). outcome a ys) (any (eqb next.pending 0) (closed W next ys) (More next next.largest) _ _ (closed_under next ys) refl)

  pub stepped_under : (s : State) (b : ℕ) (xs : List Float) → stepped W (under k s) k b xs ≡ walk_under k (stepped W s s.ensemble b xs)
  unfolding stepped_after
  stepped_under s b xs = ap (λ (v : Verdict). stepped_after W v (under k s) b xs) (gated_under s b xs) ∙ by (gated W s s.ensemble b xs)
    where
      by : (v : Verdict) → stepped_after W v (under k s) b xs ≡ walk_under k (stepped_after W v s b xs)
      by verdicts.Good = taken_under s b xs
      by (verdicts.Refused l p) = refl

  -- ---- a walk
  onward_under : (b : ℕ) (w : Walked) → onward W (walk_under k w) b ≡ walk_under k (onward W w b)
  onward_under b w = by w.answer w.area
    where
      by : (a : Step) (xs : List Float) → onward W (walk_under k (outcome a xs)) b ≡ walk_under k (onward W (outcome a xs) b)
      by (More s m) xs = stepped_under s b xs
      by (Done x r) xs = refl
      by (Refused l p) xs = refl

  all_under : (bs : List ℕ) (w : Walked) → foldl (onward W) (walk_under k w) bs ≡ walk_under k (foldl (onward W) w bs)
  all_under [] w = refl
  all_under (b ∷ bs) w = ap (λ (v : Walked). foldl (onward W) v bs) (onward_under b w) ∙ all_under bs (onward W w b)

  rounds_under : (blocks m : ℕ) (w : Walked) → rounds_from W blocks m (walk_under k w) ≡ walk_under k (rounds_from W blocks m w)
  unfolding rounds_from
  rounds_under blocks zero w = refl
  rounds_under blocks (suc m) w =
      ap (rounds_from W blocks m) (all_under (rising blocks) w) ∙ rounds_under blocks m (foldl (onward W) w (rising blocks))

  module _ (j : ℕ) (ps : List ℕ) (work : List Float) where
    pub opened_under : opened W k ps work ≡ walk_under k (opened W j ps work)
    unfolding opened_after fresh
    opened_under = by (judged W (eqb (length work) (length ps)) true ps)
      where
        by : (v : Verdict) → opened_after W k v ps work ≡ walk_under k (opened_after W j v ps work)
        by verdicts.Good =
            let xs = floats W ps in
            let mu = largest W.format xs in
            ap (λ (a : Step). outcome a xs)
            (either (eqb mu 0) (nearest_float W.format (zero_sign W ps) (pos 0)) 0 (fresh_round W (length ps) mu 0 j) (plus_zero W.format))
        by (verdicts.Refused l p) = refl

    pub undivided_under : undivided_of W k ps work ≡ walk_under k (undivided_of W j ps work)
    undivided_under =
        ap (rounds_from W (blocks_of W (length ps)) (suc W.rounds)) opened_under
        ∙ rounds_under (blocks_of W (length ps)) (suc W.rounds) (opened W j ps work)
