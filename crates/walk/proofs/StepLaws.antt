-- What a step answers, by the gate's verdict and by whether its block was the last pending one. Assumes nothing.
use Rattle.std.specs.Prelude.{◌≡◌, cond, List, ℕ, eqb, Float}
use Rattle.std.proofs.Common.{sym, eq-eqb, ne_eqb}
use Rattle.kinds.specs.Limits.{Width}
use Rattle.kinds.specs.Outcome.{outcome}
use Rattle.kinds.specs.State.{State}
use Rattle.kinds.specs.Step.{Step}
use Rattle.kinds.specs.Step.{More, Refused}
use Rattle.kinds.specs.Verdict.{Verdict}
use Rattle.kinds.specs.Verdict as verdicts
use Rattle.rounds.specs.Round.{turned, taken_state, closed}
use Rattle.walk.specs.Walk.{taken, stepped_after}

module _ (W : Width) (s : State) (b : ℕ) (work : List Float) where
  pub stepped_refused : (v : Verdict) (k p : ℕ) → v ≡ verdicts.Refused k p → outcome (Refused k p) work ≡ stepped_after W v s b work
  unfolding stepped_after
  stepped_refused v k p e = rw e

  pub stepped_good : (v : Verdict) → v ≡ verdicts.Good → taken W s b work ≡ stepped_after W v s b work
  unfolding stepped_after
  stepped_good v e = rw e

  module _ (next : State) (xs : List Float) (N : next ≡ taken_state W s b work) (X : xs ≡ turned W s.sigma b work) where
    taken_is : taken W s b work ≡ outcome (cond (eqb next.pending 0) (closed W next xs) (More next next.largest)) xs
    unfolding taken
    taken_is = λ i. outcome (cond (eqb (sym N i).pending 0) (closed W (sym N i) (sym X i)) (More (sym N i) (sym N i).largest)) (sym X i)

    pub taken_closes : (q : Step) → next.pending ≡ 0 → q ≡ closed W next xs → outcome q xs ≡ taken W s b work
    taken_closes q z e = rw e (sym (simp (eq-eqb next.pending 0 z) at taken_is))

    pub taken_goes : (next.pending ≡ 0 → ⊥) → outcome (More next next.largest) xs ≡ taken W s b work
    taken_goes z = sym (simp (ne_eqb next.pending 0 z) at taken_is)
