-- The undivided run: one round of it at a time, that a walk which has ended stays as it is, and that it ends within the rounds that a sound state may have
-- closed and one more. Assumes nothing.
use Rattle.std.specs.Prelude.{◌≡◌, Float}
use Rattle.std.proofs.Math.Path.{refl, ap}
use Rattle.std.proofs.Common.{sym, ◌∙◌, subst, le_trans, arith, pow_mono}
use mathlib.Core.List.{List, [], ◌∷◌, foldl}
use Prim.Native.Nat.{ℕ, zero, suc, ◌+◌, ◌-◌, ◌^◌, ◌≤◌, ◌<◌}
use Rattle.lists.proofs.Apart.{apart}
use Rattle.lists.specs.Each.{each_weaker}
use Rattle.kinds.specs.Limits.{Width, exponent_of, blocks_of}
use Rattle.kinds.specs.Outcome.{outcome}
use Rattle.kinds.specs.State.{State}
use Rattle.kinds.specs.Step.{Step}
use Rattle.kinds.specs.Step.{More, Done, Refused}
use Rattle.extract.specs.Extract.{largest}
use Rattle.extract.specs.ExtractLaws.{largest_le}
use Rattle.extract.specs.LargestLaws.{Positive}
use Rattle.sound.specs.SigmaLaws.{limit_is}
use Rattle.rounds.specs.Round.{all_taken, all_left, closed}
use Rattle.rounds.specs.InUnits.{remainders_small}
use Rattle.rounds.specs.Closable.{Closable}
use Rattle.rounds.specs.Fitting.{Fitting}
use Rattle.rounds.specs.Begun.{Begun, begun_rounds, largest_left, closes_by}
use Rattle.rounds.specs.Closes.{Next, ends, goes}
use Rattle.rounds.proofs.Closes.{falls}
use Rattle.walk.specs.Walk.{Walked, onward, rising, rounds_from}
use Rattle.walk.specs.Rising.{round_closes}

module _ (W : Width) (blocks : ℕ) where
  pub still : (x : Float) (r : ℕ) (ys : List Float) (bs : List ℕ) → foldl (onward W) (outcome (Done x r) ys) bs ≡ outcome (Done x r) ys
  still x r ys [] = refl
  still x r ys (b ∷ bs) = still x r ys bs

  pub run_done : (k : ℕ) (x : Float) (r : ℕ) (ys : List Float) → rounds_from W blocks k (outcome (Done x r) ys) ≡ outcome (Done x r) ys
  unfolding rounds_from
  run_done zero x r ys = refl
  run_done (suc k) x r ys = ap (rounds_from W blocks k) (still x r ys (rising blocks)) ∙ run_done k x r ys

  still_refused : (k p : ℕ) (ys : List Float) (bs : List ℕ) → foldl (onward W) (outcome (Refused k p) ys) bs ≡ outcome (Refused k p) ys
  still_refused k p ys [] = refl
  still_refused k p ys (b ∷ bs) = still_refused k p ys bs

  pub run_refused : (m k p : ℕ) (ys : List Float) → rounds_from W blocks m (outcome (Refused k p) ys) ≡ outcome (Refused k p) ys
  unfolding rounds_from
  run_refused zero k p ys = refl
  run_refused (suc m) k p ys = ap (rounds_from W blocks m) (still_refused k p ys (rising blocks)) ∙ run_refused m k p ys

-- ---- a state that opens a round of a run over n numbers
pub record Running (W : Width) (F : Fitting W) (n : ℕ) (s : State) (xs : List Float) : Type 0 where
  pub e : ℕ
  pub count : s.n ≡ n
  pub begun : Begun W F e s xs

module _ {W : Width} {F : Fitting W} {n : ℕ} {s : State} {xs : List Float} (R : Running W F n s xs) where
  -- a round of it, whatever was told before it, and what may follow
  pub run_round : (k : ℕ) (told : Float) → rounds_from W (blocks_of W n) (suc k) (outcome (More s told) xs)
      ≡ rounds_from W (blocks_of W n) k (outcome (closed W (all_taken W s xs) (all_left W s xs)) (all_left W s xs))
  unfolding rounds_from
  run_round k told = ap (rounds_from W (blocks_of W n) k)
      ((λ i. foldl (onward W) (outcome (More s told) xs) (rising (blocks_of W (sym R.count i)))) ∙ round_closes R.begun told)

  pub run_told : (k : ℕ) (l m : Float)
      → rounds_from W (blocks_of W n) (suc k) (outcome (More s l) xs) ≡ rounds_from W (blocks_of W n) (suc k) (outcome (More s m) xs)
  run_told k l m = run_round k l ∙ sym (run_round k m)

  pub run_ends : (k : ℕ) (told x : Float) (r : ℕ) → closed W (all_taken W s xs) (all_left W s xs) ≡ Done x r
      → outcome (Done x r) (all_left W s xs) ≡ rounds_from W (blocks_of W n) (suc k) (outcome (More s told) xs)
  run_ends k told x r e =
      sym (run_round k told
      ∙ ap (λ (q : Step). rounds_from W (blocks_of W n) k (outcome q (all_left W s xs))) e
      ∙ run_done W (blocks_of W n) k x r (all_left W s xs))

  pub run_goes : (k : ℕ) (told : Float) (s' : State) (m : Float) → closed W (all_taken W s xs) (all_left W s xs) ≡ More s' m
      → rounds_from W (blocks_of W n) (suc k) (outcome (More s told) xs) ≡ rounds_from W (blocks_of W n) k (outcome (More s' m) (all_left W s xs))
  run_goes k told s' m e = run_round k told ∙ ap (λ (q : Step). rounds_from W (blocks_of W n) k (outcome q (all_left W s xs))) e

  -- how it closes
  next : Next W F s (all_left W s xs) (closed W (all_taken W s xs) (all_left W s xs))
  next = rw (closes_by R.begun) (falls R.begun)

  pub run_running : (s' : State) (m : Float) → closed W (all_taken W s xs) (all_left W s xs) ≡ More s' m
      → Running W F n s' (all_left W s xs) × (s'.rounds ≡ s.rounds + 1)
  run_running s' m e = go next e
    where
      go : {q : Step} → Next W F s (all_left W s xs) q → q ≡ More s' m → Running W F n s' (all_left W s xs) × (s'.rounds ≡ s.rounds + 1)
      go (ends x) h = apart (cc)
      go (goes e next told same named more B) h =
          let z : next ≡ s' = cc in
          let r : Running W F n next (all_left W s xs) = record { e = e; count = same ∙ R.count; begun = B } in
          subst (λ (q : State). Running W F n q (all_left W s xs) × (q.rounds ≡ s.rounds + 1)) z (r, more)

  -- the round closes, and is counted
  pub run_counted : (x : Float) (r : ℕ) → closed W (all_taken W s xs) (all_left W s xs) ≡ Done x r → r ≡ s.rounds + 1
  run_counted x r e = go next e
    where
      go : {q : Step} → Next W F s (all_left W s xs) q → q ≡ Done x r → r ≡ s.rounds + 1
      go (ends y) h = cc
      go (goes e next told same named more B) h = apart (cc)

  pub run_accepted : (k p : ℕ) → closed W (all_taken W s xs) (all_left W s xs) ≡ Refused k p → ⊥
  run_accepted k p e = go next e
    where
      go : {q : Step} → Next W F s (all_left W s xs) q → q ≡ Refused k p → ⊥
      go (ends x) h = let z : ◌≡◌ {A = ℕ} 0 1 = cc in omega arith
      go (goes e next told same named more B) h = let z : ◌≡◌ {A = ℕ} 0 1 = cc in omega arith

-- ---- the same with the rounds that are left to it, for the code's loop: q closes the state and the work area after all blocks
module _ {W : Width} {F : Fitting W} {n : ℕ} {s : State} {xs : List Float} (R : Running W F n s xs) {taken : State} {ys : List Float}
    (T : taken ≡ all_taken W s xs) (Y : ys ≡ all_left W s xs) where
  remaining : suc W.rounds - s.rounds ≡ suc (W.rounds - s.rounds)
  remaining = omega (arith, begun_rounds R.begun)

  -- what the code of a close asks
  pub walk_closable : Closable W taken
  walk_closable =
      let B = R.begun in
      let l : 2 ^ R.e ≤ 2 ^ F.top = pow_mono (omega (arith, B.lowered)) in
      rw T (record {
        counts = record { some = B.some; few = B.few; rounds = begun_rounds B };
        sigma = record {
          k = exponent_of s.n + R.e;
          fini = B.scale.power.number.fini;
          positive = B.scale.power.sign;
          power = B.scale.power.units;
          from = omega arith;
          to = omega (arith, B.lowered, limit_is W F.top F.top_is s.n);
        };
        largest = record { number = M.number; within = rw (M.units, F.top_is) (le_trans most l) };
        positive = M.sign;
      })
    where
      M : Positive W.format (all_taken W s xs).largest (largest W.format (all_left W s xs))
      M = largest_left R.begun

      most : largest W.format (all_left W s xs) ≤ 2 ^ R.e
      most =
          largest_le W.format (2 ^ R.e) (all_left W s xs)
          (each_weaker _ _ (λ x X. X.within) (all_left W s xs) (remainders_small R.begun.scale xs R.begun.work))

  module _ {q : Step} (Q : q ≡ closed W taken ys) where
    is : closed W (all_taken W s xs) (all_left W s xs) ≡ q
    is = sym (Q ∙ (λ i. closed W (T i) (Y i)))

    pub walk_ends : (told x : Float) (r : ℕ) → q ≡ Done x r
        → outcome q ys ≡ rounds_from W (blocks_of W n) (suc W.rounds - s.rounds) (outcome (More s told) xs)
    walk_ends told x r e = rw (e, Y, remaining) (run_ends R (W.rounds - s.rounds) told x r (is ∙ e))

    pub walk_accepted : (k p : ℕ) → q ≡ Refused k p → ⊥
    walk_accepted k p e = run_accepted R k p (is ∙ e)

    module _ (s' : State) (m : Float) (e : q ≡ More s' m) where
      later : Running W F n s' (all_left W s xs) × (s'.rounds ≡ s.rounds + 1)
      later = run_running R s' m (is ∙ e)

      pub walk_goes : (told told' : Float) → rounds_from W (blocks_of W n) (suc W.rounds - s.rounds) (outcome (More s told) xs)
          ≡ rounds_from W (blocks_of W n) (suc W.rounds - s'.rounds) (outcome (More s' told') ys)
      walk_goes told told' =
          let k : suc W.rounds - s'.rounds ≡ W.rounds - s.rounds = omega (arith, later.1) in
          let j : W.rounds - s.rounds ≡ suc (W.rounds - s'.rounds) = omega (arith, later.1, begun_rounds later.0.begun) in
          rw (remaining, k, Y) (run_goes R (W.rounds - s.rounds) told s' m (is ∙ e) ∙ rw j (run_told later.0 (W.rounds - s'.rounds) m told'))

      pub walk_running : Running W F n s' ys
      walk_running = rw Y later.0

      -- what is run from there, over its own count of numbers
      pub walk_own : Running W F s'.n s' ys
      walk_own = subst (λ (n : ℕ). Running W F n s' ys) (sym walk_running.count) walk_running

      pub walk_on : (told told' : Float) {w : Walked}
          → w ≡ rounds_from W (blocks_of W s'.n) (suc W.rounds - s'.rounds) (outcome (More s' told') ys)
          → w ≡ rounds_from W (blocks_of W n) (suc W.rounds - s.rounds) (outcome (More s told) xs)
      walk_on told told' h =
          h ∙ (λ i. rounds_from W (blocks_of W (walk_running.count i)) (suc W.rounds - s'.rounds) (outcome (More s' told') ys)) ∙ sym (walk_goes told told')

      pub walk_lower : suc W.rounds - s'.rounds < suc W.rounds - s.rounds
      walk_lower = omega (arith, later.1, remaining)

-- ---- the walk ends: after k more rounds than this one it has closed as many as a sound state may have
pub record Ended (W : Width) (w : Walked) : Type 0 where
  pub sum : Float
  pub rounds : ℕ
  pub answer : w.answer ≡ Done sum rounds
  pub most : rounds ≤ suc W.rounds

module _ {W : Width} {F : Fitting W} {n : ℕ} where
  finished : {s : State} {xs : List Float} (k : ℕ) (told x : Float) (r : ℕ) → Running W F n s xs → closed W (all_taken W s xs) (all_left W s xs) ≡ Done x r
      → Ended W (rounds_from W (blocks_of W n) (suc k) (outcome (More s told) xs))
  finished {s} {xs} k told x r R e = record {
    sum = x;
    rounds = r;
    answer = sym (ap (λ (w : Walked). w.answer) (run_ends R k told x r e));
    most = omega (arith, run_counted R x r e, begun_rounds R.begun);
  }

  -- what a close leaves to be shown: that a walk which goes on ends
  closing : {s : State} {xs : List Float} (k : ℕ) (told : Float) (R : Running W F n s xs)
      → ((s' : State) (m : Float) → closed W (all_taken W s xs) (all_left W s xs) ≡ More s' m
      → Ended W (rounds_from W (blocks_of W n) k (outcome (More s' m) (all_left W s xs))))
      → Ended W (rounds_from W (blocks_of W n) (suc k) (outcome (More s told) xs))
  closing {s} {xs} k told R h = go (closed W (all_taken W s xs) (all_left W s xs)) refl
    where
      go : (q : Step) → closed W (all_taken W s xs) (all_left W s xs) ≡ q → Ended W (rounds_from W (blocks_of W n) (suc k) (outcome (More s told) xs))
      go (Done x r) e = finished k told x r R e
      go (Refused j p) e = absurd (run_accepted R j p e)
      go (More s' m) e = rw (run_goes R k told s' m e) (h s' m e)

  pub run_finishes : {s : State} {xs : List Float} (k : ℕ) (told : Float) → Running W F n s xs → s.rounds + k ≡ W.rounds
      → Ended W (rounds_from W (blocks_of W n) (suc k) (outcome (More s told) xs))
  run_finishes {s = s} {xs = xs} zero told R h = closing 0 told R
      (λ s' m e. let N = run_running R s' m e in absurd (omega (arith, N.1, begun_rounds N.0.begun)))
  run_finishes {s = s} {xs = xs} (suc k) told R h = closing (suc k) told R
      (λ s' m e. let N = run_running R s' m e in run_finishes {s = s'} {xs = all_left W s xs} k m N.0 (omega (arith, N.1)))
