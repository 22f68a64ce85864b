-- The undivided walk from its opening, under any number: a state that an opening answers opens a round of a run, and any other answer is the walk's. (That
-- every walk ends is Run.run_finishes.) Assumes nothing.
use Rattle.std.specs.Prelude.{◌≡◌, Bool, false, cond, List, eqb, pos, Float}
use Rattle.std.proofs.Math.Path.{refl, sym, ap}
use Rattle.std.proofs.Common.{◌∙◌, subst, arith}
use Rattle.std.proofs.Math.Bool.{true}
use Prim.Native.Nat.{ℕ, suc, ◌-◌}
use Rattle.std.proofs.Math.ListN.{length}
use Rattle.ieee.specs.Units.{nearest_float}
use Rattle.lists.proofs.Apart.{apart}
use Rattle.kinds.specs.Limits.{Width, blocks_of}
use Rattle.kinds.specs.Outcome.{outcome}
use Rattle.kinds.specs.State.{State}
use Rattle.kinds.specs.Step.{Step}
use Rattle.kinds.specs.Step.{More, Done, Refused}
use Rattle.kinds.specs.Verdict.{Verdict}
use Rattle.kinds.specs.Verdict as verdicts
use Rattle.judge.specs.Judge.{judged, floats, zero_sign}
use Rattle.judge.proofs.JudgeLaws.{list_when, list_passed, list_allowed}
use Rattle.extract.specs.Extract.{plus_zero, largest}
use Rattle.rounds.specs.Round.{all_zero, fresh_round, fresh}
use Rattle.rounds.specs.Fitting.{Fitting}
use Rattle.walk.specs.Walk.{Walked, opened_after, opened, rounds_from, undivided_of}
use Rattle.walk.proofs.OpeningLaws.{opens}
use Rattle.walk.specs.Run.{Running, run_done, run_refused, run_told}

-- a state that opens the first round of a walk over n numbers
pub record FirstRound (W : Width) (F : Fitting W) (n : ℕ) (s : State) (xs : List Float) : Type 0 where
  pub running : Running W F n s xs
  pub rounds : s.rounds ≡ 0

module _ {W : Width} (F : Fitting W) (k : ℕ) (ps : List ℕ) (work : List Float) where
  pub opened_first : (s : State) (m : Float) (xs : List Float) → opened W k ps work ≡ outcome (More s m) xs → FirstRound W F (length ps) s xs
  unfolding opened_after fresh
  opened_first s m xs e = by (judged W (eqb (length work) (length ps)) true ps) refl e
    where
      n : ℕ
      n = length ps

      first : State
      first = fresh_round W n (largest W.format (floats W ps)) 0 k

      round : all_zero W.format (floats W ps) ≡ false → judged W (eqb (length work) n) true ps ≡ verdicts.Good → FirstRound W F n first (floats W ps)
      round z g =
          let v = (list_when W (eqb (length work) n) true ps verdicts.Good).0 g in
          record { running = record { e = _; count = refl; begun = opens (list_allowed v) F k (list_passed v).few z }; rounds = refl }

      zero : Float
      zero = nearest_float W.format (zero_sign W ps) (pos 0)

      starts : (b : Bool) → all_zero W.format (floats W ps) ≡ b → judged W (eqb (length work) n) true ps ≡ verdicts.Good
          → outcome (cond b (Done zero 0) (More first (plus_zero W.format))) (floats W ps) ≡ outcome (More s m) xs → FirstRound W F n s xs
      starts true z g h =
          let e : Done zero 0 ≡ More s m = ap (λ (w : Walked). w.answer) h in
          apart (cc)
      starts false z g h =
          let e : More first (plus_zero W.format) ≡ More s m = ap (λ (w : Walked). w.answer) h in
          let a : first ≡ s = cc in
          let b : floats W ps ≡ xs = ap (λ (w : Walked). w.area) h in
          rw (a, b) at (round z g)

      by : (v : Verdict) → judged W (eqb (length work) n) true ps ≡ v → opened_after W k v ps work ≡ outcome (More s m) xs → FirstRound W F n s xs
      by verdicts.Good g h = starts (all_zero W.format (floats W ps)) refl g h
      by (verdicts.Refused l p) g h =
          let e : Refused l p ≡ More s m = ap (λ (w : Walked). w.answer) h in
          apart (cc)

  rest : Walked → Walked
  rest w = rounds_from W (blocks_of W (length ps)) (suc W.rounds) w

  module _ (q : Step) (xs : List Float) (e : outcome q xs ≡ opened W k ps work) where
    -- an answer that isn't a state stays
    stays : rest (outcome q xs) ≡ outcome q xs → outcome q xs ≡ undivided_of W k ps work
    unfolding rest
    stays h = sym h ∙ ap rest e

    pub faithful_done : (x : Float) (r : ℕ) → q ≡ Done x r → outcome q xs ≡ undivided_of W k ps work
    unfolding rest
    faithful_done x r d = stays (rw d (run_done W (blocks_of W (length ps)) (suc W.rounds) x r xs))

    pub faithful_refused : (l p : ℕ) → q ≡ Refused l p → outcome q xs ≡ undivided_of W k ps work
    unfolding rest
    faithful_refused l p d = stays (rw d (run_refused W (blocks_of W (length ps)) (suc W.rounds) l p xs))

    module _ (s : State) (m : Float) (d : q ≡ More s m) where
      first : FirstRound W F (length ps) s xs
      first = opened_first s m xs (sym e ∙ ap (λ (q : Step). outcome q xs) d)

      pub faithful_running : Running W F s.n s xs
      faithful_running = subst (λ (n : ℕ). Running W F n s xs) (sym first.running.count) first.running

      -- whatever is told before it
      pub faithful_more : (told : Float) → rounds_from W (blocks_of W s.n) (suc W.rounds - s.rounds) (outcome (More s told) xs) ≡ undivided_of W k ps work
      unfolding rest
      faithful_more told =
          let j : suc W.rounds - s.rounds ≡ suc W.rounds = omega (arith, first.rounds) in
          (λ i. rounds_from W (blocks_of W (first.running.count i)) (j i) (outcome (More s told) xs))
          ∙ run_told first.running W.rounds told m
          ∙ (λ i. rest (outcome (sym d i) xs))
          ∙ ap rest e
