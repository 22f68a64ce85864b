-- A step of the walk as it was before is the step without what is kept and told, of a state whose largest remainder is sound, where at a close that is the
-- largest magnitude of the area. Assumes nothing.
use Rattle.std.specs.Prelude.{◌≡◌, Bool, ℕ, ◌+◌, ◌*◌, ◌^◌, ◌≤◌, eqb, Float}
use Rattle.std.proofs.Math.Path.{refl, ap}
use Rattle.std.proofs.Common.{sym, ◌∙◌, arith}
use Rattle.std.proofs.Math.Bool.{true, false, cond}
use mathlib.Core.List.{List, [], ◌∷◌}
use Rattle.std.proofs.Math.Nat.{mul-zero}
use borrow.Author.Tests.{eqb-true, le-leb}
use Rattle.std.specs.Float.Ieee.{prec, eq}
use Rattle.std.specs.Float.Ieee.Bits.{is_true}
use Rattle.std.specs.Float.Ieee.Scale.{finite}
use Rattle.ieee.specs.Units.{magnitude}
use Rattle.kinds.specs.Limits.{Width}
use Rattle.kinds.specs.Outcome.{outcome}
use Rattle.kinds.specs.State.{State}
use Rattle.kinds.specs.Step.{Step}
use Rattle.kinds.specs.Step.{More, Done}
use Rattle.kinds.specs.Verdict.{Verdict}
use Rattle.kinds.specs.Verdict as verdicts
use Rattle.extract.specs.Extract.{plus_zero, largest}
use Rattle.extract.specs.LargestLaws.{zero_positive}
use Rattle.sound.specs.Sound.{sound_largest, sound_numbers, sound_pending, sound_place, bad_place, gated}
use Rattle.rounds.specs.Round.{turned, taken_state, fresh_round, fresh, finished, closed_by}
use Rattle.rounds.specs.ClosedLaws.{tau1_of, finishes, further_round}
use Rattle.walk.specs.Walk.{taken, stepped_after, stepped}
use Rattle.walk.specs.Before.{taken_before, stepped_before_after, stepped_before, forgetful, forgotten_answer, forgotten}

module _ (W : Width) where
  -- ---- the gate
  zero_sound : (sigma : Float) → sound_largest W sigma (plus_zero W.format) ≡ true
  unfolding sound_largest
  zero_sound sigma =
      let f = W.format in
      let Z = zero_positive f in
      let l : 2 ^ prec f * magnitude f (plus_zero f) ≤ magnitude f sigma = rw (Z.units, mul-zero (2 ^ prec f)) (omega arith) in
      simp (is_true (finite (plus_zero f)) Z.number.fini, Z.sign, le-leb _ _ l)

  same_place : (s : State) (xs : List Float) → bad_place W (forgetful W s) xs ≡ bad_place W s xs
  unfolding bad_place
  same_place s [] = refl
  same_place s (x ∷ xs) = ap (λ (n : ℕ). cond (sound_place W s x) (n + 1) 0) (same_place s xs)

  gated_before : (s : State) (k b : ℕ) (xs : List Float) → sound_largest W s.sigma s.largest ≡ true
      → gated W (forgetful W s) k b xs ≡ gated W s k b xs
  unfolding gated sound_numbers sound_pending
  gated_before s k b xs h = rw (zero_sound s.sigma, h, same_place s xs)

  -- ---- a close
  any : (c : Bool) (a b a' b' : Step) → a' ≡ forgotten_answer W a → b' ≡ forgotten_answer W b → cond c a' b' ≡ forgotten_answer W (cond c a b)
  any true a b a' b' p q = p
  any false a b a' b' p q = q

  closed_before : (mu : ℕ) (s : State) (xs : List Float) → closed_by W mu (forgetful W s) xs ≡ forgotten_answer W (closed_by W mu s xs)
  unfolding closed_by fresh
  closed_before mu s xs =
      let none = plus_zero W.format in
      let sum = finished W.format (tau1_of W s) s.t s.tau xs in
      let r = s.rounds + 1 in
      let first = fresh_round W s.n mu r s.ensemble in
      let m = s.largest in
      any (eq (tau1_of W s) none) (cond (eqb mu 0) (Done none r) (More first m)) (cond (finishes W s) (Done sum r) (More (further_round W s) m)) _ _
      (any (eqb mu 0) (Done none r) (More first m) _ _ refl refl) (any (finishes W s) (Done sum r) (More (further_round W s) m) _ _ refl refl)

  -- ---- a step
  module _ (s : State) (b : ℕ) (xs : List Float) where
    abbrev next : State
    next = taken_state W s b xs

    abbrev left : List Float
    left = turned W s.sigma b xs

    taken_before_lem : (next.pending ≡ 0 → magnitude W.format next.largest ≡ largest W.format left)
        → taken_before W (forgetful W s) b xs ≡ forgotten W (taken W s b xs)
    unfolding taken_before taken
    taken_before_lem h = go (eqb next.pending 0) (eqb-true next.pending 0)
      where
        go : (c : Bool) → (c ≡ true → next.pending ≡ 0)
            → outcome (cond c (closed_by W (largest W.format left) (forgetful W next) left) (More (forgetful W next) (plus_zero W.format))) left
            ≡ outcome (forgotten_answer W (cond c (closed_by W (magnitude W.format next.largest) next left) (More next next.largest))) left
        go true z =
            (λ i. outcome (closed_by W (sym (h (z refl)) i) (forgetful W next) left) left)
            ∙ ap (λ (a : Step). outcome a left) (closed_before (magnitude W.format next.largest) next left)
        go false z = refl

    pub stepped_before_lem : (k : ℕ) → sound_largest W s.sigma s.largest ≡ true
        → (gated W s k b xs ≡ verdicts.Good → next.pending ≡ 0 → magnitude W.format next.largest ≡ largest W.format left)
        → stepped_before W (forgetful W s) k b xs ≡ forgotten W (stepped W s k b xs)
    unfolding stepped_before_after stepped_after
    stepped_before_lem k sound h =
        ap (λ (v : Verdict). stepped_before_after W v (forgetful W s) b xs) (gated_before s k b xs sound) ∙ by (gated W s k b xs) h
      where
        by : (v : Verdict) → (v ≡ verdicts.Good → next.pending ≡ 0 → magnitude W.format next.largest ≡ largest W.format left)
            → stepped_before_after W v (forgetful W s) b xs ≡ forgotten W (stepped_after W v s b xs)
        by verdicts.Good h = taken_before_lem (h refl)
        by (verdicts.Refused l p) h = refl
