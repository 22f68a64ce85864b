-- A run over numbers that sum to S ends with a faithful rounding of S. Assumes nothing.
use Rattle.std.specs.Prelude.{◌≡◌, refl, true, List, ℕ, zero, suc, ◌+◌, Float}
use Rattle.std.proofs.Common.{sym, ap, subst, ◌∙◌, arith}
use Rattle.std.specs.Float.{Format}
use Rattle.std.specs.Float.Ieee.{prec, eq}
use Rattle.units.specs.Whole.{Whole, nat}
use Rattle.units.specs.Faithful.{Faithful}
use Rattle.units.proofs.FaithfulLaws.{faithful_same, zero_faithful}
use Rattle.ieee.specs.Units.{whole}
use Rattle.lists.proofs.Apart.{apart}
use Rattle.kinds.specs.Limits.{Width, blocks_of}
use Rattle.kinds.specs.Outcome.{outcome}
use Rattle.kinds.specs.State.{State}
use Rattle.kinds.specs.Step.{Step}
use Rattle.kinds.specs.Step.{More, Done, Refused}
use Rattle.extract.specs.Extract.{plus_zero, largest}
use Rattle.extract.specs.LargestLaws.{zero_positive}
use Rattle.rounds.specs.Round.{all_taken, all_left, all_zero, closed}
use Rattle.rounds.specs.Fitting.{Fitting}
use Rattle.rounds.specs.ClosedLaws.{tau1_of, fresh_each, closed_each}
use Rattle.rounds.specs.Begun.{begun_rounds, closes_by}
use Rattle.walk.specs.Walk.{Walked, rounds_from}
use Rattle.walk.specs.Run.{Running, run_ends, run_goes, run_accepted, run_counted}
use Rattle.runs.proofs.CloseUnits.{zero_whole}
use Rattle.runs.specs.Summing.{Summing}
use Rattle.runs.proofs.Summing.{finished_units, finished_plus, sums_nothing, sums_restart, sums_finish, sums_further}
use Rattle.runs.specs.SumRun.{SumNext, SumRunning, Faithfully}
use Rattle.runs.specs.SumRun.{ends}
use Rattle.runs.specs.SumRun.{goes}

module _ {W : Width} {F : Fitting W} {S : Whole} {e : ℕ} {s : State} {xs : List Float} (A : Summing W F S e s xs) where
  pub sums_close : SumNext W F S s (all_left W s xs) (closed W (all_taken W s xs) (all_left W s xs))
  sums_close =
      let P = SumNext W F S s (all_left W s xs) in
      rw (closes_by A.begun) (closed_each P W (largest W.format (all_left W s xs)) (all_taken W s xs) (all_left W s xs)
      (λ z. fresh_each P W _ s.n _ _ _ _ (λ a. ends _ (zero_positive f).number (nothing z a) (λ m. (zero_positive f).sign))
      (λ a. goes _ _ _ refl refl refl (sums_restart A z a)))
      (λ z r. ends _ (finished_units A).0 (sums_finish A r) (finished_plus A z)) (λ z r. goes _ _ _ refl refl refl (sums_further A r)))
    where
      f : Format
      f = W.format

      nothing : eq (tau1_of W (all_taken W s xs)) (plus_zero f) ≡ true → all_zero f (all_left W s xs) ≡ true → Faithful (prec f) (whole f (plus_zero f)) S
      nothing z a = rw (zero_whole f) (faithful_same (nat 0) S (sym (sums_nothing A z a)) (zero_faithful (prec f)))

module _ {W : Width} {F : Fitting W} {S : Whole} {n : ℕ} where
  pub sum_running : {s : State} {xs : List Float} → SumRunning W F S n s xs → Running W F n s xs
  sum_running A = record { e = A.e; count = A.count; begun = A.summing.begun }

  module _ {s : State} {xs : List Float} (A : SumRunning W F S n s xs) where
    sum_goes : (s' : State) (m : Float) → closed W (all_taken W s xs) (all_left W s xs) ≡ More s' m
        → SumRunning W F S n s' (all_left W s xs) × (s'.rounds ≡ s.rounds + 1)
    sum_goes s' m h = go (sums_close A.summing) h
      where
        go : {q : Step} → SumNext W F S s (all_left W s xs) q → q ≡ More s' m
            → SumRunning W F S n s' (all_left W s xs) × (s'.rounds ≡ s.rounds + 1)
        go (ends x N G P) h = apart (cc)
        go (goes e next told same named more B) h =
            let z : next ≡ s' = cc in
            let r : SumRunning W F S n next (all_left W s xs) = record { e = e; count = same ∙ A.count; summing = B } in
            subst (λ (q : State). SumRunning W F S n q (all_left W s xs) × (q.rounds ≡ s.rounds + 1)) z (r, more)

    sum_ends : (k : ℕ) (told x : Float) (r : ℕ) → closed W (all_taken W s xs) (all_left W s xs) ≡ Done x r
        → Faithfully W S (rounds_from W (blocks_of W n) (suc k) (outcome (More s told) xs))
    sum_ends k told x r h = go (sums_close A.summing) h
      where
        R : Running W F n s xs
        R = sum_running A

        go : {q : Step} → SumNext W F S s (all_left W s xs) q → q ≡ Done x r
            → Faithfully W S (rounds_from W (blocks_of W n) (suc k) (outcome (More s told) xs))
        go (ends y N G P) e =
            let v : y ≡ x = cc in
            record {
              sum = x;
              rounds = r;
              answer = sym (ap (λ (w : Walked). w.answer) (run_ends R k told x r h));
              most = omega (arith, run_counted R x r h, begun_rounds R.begun);
              number = rw v at N;
              faithful = rw v at G;
              plus = rw v at P;
            }
        go (goes e next told same named more B) h = apart (cc)

    closing : (k : ℕ) (told : Float) → ((s' : State) (m : Float) → closed W (all_taken W s xs) (all_left W s xs) ≡ More s' m
        → Faithfully W S (rounds_from W (blocks_of W n) k (outcome (More s' m) (all_left W s xs))))
        → Faithfully W S (rounds_from W (blocks_of W n) (suc k) (outcome (More s told) xs))
    closing k told h = go (closed W (all_taken W s xs) (all_left W s xs)) refl
      where
        go : (q : Step) → closed W (all_taken W s xs) (all_left W s xs) ≡ q → Faithfully W S (rounds_from W (blocks_of W n) (suc k) (outcome (More s told) xs))
        go (Done x r) e = sum_ends k told x r e
        go (Refused j p) e = absurd (run_accepted (sum_running A) j p e)
        go (More s' m) e = rw (run_goes (sum_running A) k told s' m e) (h s' m e)

  pub run_faithful : {s : State} {xs : List Float} (k : ℕ) (told : Float) → SumRunning W F S n s xs → s.rounds + k ≡ W.rounds
      → Faithfully W S (rounds_from W (blocks_of W n) (suc k) (outcome (More s told) xs))
  run_faithful {s = s} {xs = xs} zero told A h = closing A 0 told
      (λ s' m e. let N = sum_goes A s' m e in absurd (omega (arith, N.1, begun_rounds N.0.summing.begun)))
  run_faithful {s = s} {xs = xs} (suc k) told A h = closing A (suc k) told
      (λ s' m e. let N = sum_goes A s' m e in run_faithful {s = s'} {xs = all_left W s xs} k m N.0 (omega (arith, N.1)))
