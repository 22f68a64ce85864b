-- Rule WS14, for every state: what a step tells, and what the next state keeps of it; and what an opening tells and keeps. Assumes nothing.
use Rattle.std.specs.Prelude.{refl, Bool, false, cond, List, ℕ, ◌+◌, eqb, pos, length, Float}
use Rattle.std.proofs.Math.Bool.{true}
use Rattle.ieee.specs.Units.{magnitude, nearest_float}
use Rattle.kinds.specs.Limits.{Width}
use Rattle.kinds.specs.State.{State}
use Rattle.kinds.specs.Step.{More}
use Rattle.kinds.specs.Verdict.{Verdict}
use Rattle.kinds.specs.Verdict as verdicts
use Rattle.judge.specs.Judge.{judged, floats, zero_sign}
use Rattle.extract.specs.Extract.{plus_zero, largest}
use Rattle.rounds.specs.Round.{turned, taken_state, fresh, closed_by, closed}
use Rattle.rounds.specs.ClosedLaws.{fresh_each, closed_each}
use Rattle.walk.specs.Walk.{opened_after, opened, taken}
use Rattle.walk.specs.Told.{Tells}

module _ (W : Width) where
  fresh_tells : (zero : Float) (n mu rounds ensemble : ℕ) (m : Float) → Tells m (plus_zero W.format) (fresh W zero n mu rounds ensemble m)
  fresh_tells zero n mu rounds ensemble m =
      fresh_each (Tells m (plus_zero W.format)) W zero n mu rounds ensemble m (λ a. tt) (λ a. (refl, refl))

  closed_tells : (mu : ℕ) (s : State) (xs : List Float) → Tells s.largest (plus_zero W.format) (closed_by W mu s xs)
  closed_tells mu s xs =
      closed_each (Tells s.largest (plus_zero W.format)) W mu s xs
      (λ z. fresh_tells (plus_zero W.format) s.n mu (s.rounds + 1) s.ensemble s.largest) (λ z r. tt) (λ z r. (refl, refl))

  -- a step tells the largest remainder of its own round; the state keeps it too, and +0 where that round has closed
  pub taken_tells : (s : State) (b : ℕ) (xs : List Float) → let next = taken_state W s b xs in
      Tells next.largest (cond (eqb next.pending 0) (plus_zero W.format) next.largest) (taken W s b xs).answer
  unfolding taken
  taken_tells s b xs = by (eqb (taken_state W s b xs).pending 0)
    where
      next : State
      next = taken_state W s b xs

      by : (c : Bool) → Tells next.largest (cond c (plus_zero W.format) next.largest)
          (cond c (closed W next (turned W s.sigma b xs)) (More next next.largest))
      by true = closed_tells (magnitude W.format next.largest) next (turned W s.sigma b xs)
      by false = (refl, refl)

  -- an opening tells +0, and keeps it
  pub opened_tells : (k : ℕ) (ps : List ℕ) (work : List Float) → Tells (plus_zero W.format) (plus_zero W.format) (opened W k ps work).answer
  unfolding opened_after
  opened_tells k ps work = by (judged W (eqb (length work) (length ps)) true ps)
    where
      by : (v : Verdict) → Tells (plus_zero W.format) (plus_zero W.format) (opened_after W k v ps work).answer
      by verdicts.Good =
          fresh_tells (nearest_float W.format (zero_sign W ps) (pos 0)) (length ps) (largest W.format (floats W ps)) 0 k (plus_zero W.format)
      by (verdicts.Refused l p) = tt
