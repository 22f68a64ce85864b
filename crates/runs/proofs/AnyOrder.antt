-- The order of the blocks changes nothing: a round in any order of its blocks closes as in rising order, and the run with any order of blocks in each round is
-- the undivided call's walk, every step accepted. Assumes nothing.
use Rattle.std.proofs.Math.Path.{◌≡◌, refl, sym, ap}
use Rattle.std.proofs.Common.{◌∙◌, arith}
use Rattle.std.specs.Prelude.{Bool, T, eqb, length, Float}
use Rattle.std.proofs.Math.Bool.{true, false}
use mathlib.Core.List.{List, [], ◌∷◌, foldl, Perm}
use Prim.Native.Nat.{ℕ, zero, suc, ◌<◌}
use borrow.Author.Tests.{eqb-true, eqb-false}
use Rattle.std.specs.Float.Ieee.Fits.{and_l, and_r}
use Rattle.std.specs.Float.Ieee.Bits.{is_true}
use Rattle.lists.proofs.Apart.{apart}
use Rattle.lists.specs.Bitset.{has, without, full}
use Rattle.kinds.specs.Limits.{Width, blocks_of}
use Rattle.kinds.specs.Outcome.{outcome}
use Rattle.kinds.specs.State.{State}
use Rattle.kinds.specs.Step.{Step}
use Rattle.kinds.specs.Step.{More, Done, Refused}
use Rattle.kinds.specs.Verdict.{Good}
use Rattle.judge.specs.Judge.{floats}
use Rattle.judge.specs.Table.{ListWhen}
use Rattle.extract.specs.Extract.{plus_zero}
use Rattle.rounds.specs.Round.{all_zero, in_round, all_taken, all_left, closed}
use Rattle.rounds.specs.Fitting.{Fitting}
use Rattle.rounds.specs.Begun.{Begun}
use Rattle.walk.specs.Walk.{Walked, opened, onward, rising, rounds_from, undivided_of}
use Rattle.walk.specs.Run.{Running, still, run_round, run_running, run_accepted, run_done}
use Rattle.runs.specs.Taken.{mid_area}
use Rattle.runs.proofs.MidRound.{Mid, mid_begins, begins_area, begins_some, mid_takes}
use Rattle.runs.proofs.MidStep.{after, mid_goes, mid_closes}
use Rattle.runs.proofs.MembersLaws.{empty_has}
use Rattle.runs.specs.Runs.{ordered}
use Rattle.runs.specs.OrderLaws.{once}
use Rattle.runs.proofs.OrderLaws.{once_permuted}
use Rattle.runs.proofs.OpenedSum.{opened_zero, opened_round, opened_summing}

-- ---- one round
module _ {W : Width} {F : Fitting W} {e : ℕ} {s : State} {xs : List Float} (B : Begun W F e s xs) where
  -- the close, and the state and the area in the middle
  end : Walked
  end = outcome (closed W (all_taken W s xs) (all_left W s xs)) (all_left W s xs)

  at : ℕ → Float → Float → Float → Walked
  at P tau m told = outcome (More (in_round s tau m P) told) (mid_area W s P xs)

  -- after the last block nothing is left to take
  ended : (bs : List ℕ) (P : ℕ) → P ≡ 0 → T (once P bs) → foldl (onward W) end bs ≡ end
  unfolding once
  ended [] P z o = refl
  ended (b ∷ bs) P z o =
      let f : ◌≡◌ {A = Bool} true false = sym (is_true (has P b) (and_l (has P b) (once (without P b) bs) o)) ∙ rw z (empty_has b) in
      apart (cc)

  from : (bs : List ℕ) (P : ℕ) (tau m told : Float) → Mid B P tau m → 0 < P → T (once P bs) → foldl (onward W) (at P tau m told) bs ≡ end
  unfolding once at end
  from [] P tau m told M l o = absurd (omega (arith, eqb-true P 0 (is_true (eqb P 0) o)))
  from (b ∷ bs) P tau m told M l o = go (eqb (without P b) 0) refl (from bs (without P b) next.tau next.largest next.largest (mid_takes B M b h))
    where
      h : has P b ≡ true
      h = is_true (has P b) (and_l (has P b) (once (without P b) bs) o)

      rest : T (once (without P b) bs)
      rest = and_r (has P b) (once (without P b) bs) o

      next : State
      next = after B P tau m b

      go : (c : Bool) → eqb (without P b) 0 ≡ c
          → (0 < without P b → T (once (without P b) bs) → foldl (onward W) (at (without P b) next.tau next.largest next.largest) bs ≡ end)
          → foldl (onward W) (onward W (at P tau m told) b) bs ≡ end
      go true z k = ap (λ (w : Walked). foldl (onward W) w bs) (mid_closes B M b h (eqb-true _ 0 z)) ∙ ended bs (without P b) (eqb-true _ 0 z) rest
      go false z k =
          let n = eqb-false (without P b) 0 z in
          ap (λ (w : Walked). foldl (onward W) w bs) (mid_goes B M b h n) ∙ k (omega (arith, n)) rest

  pub round_any_order : (told : Float) (bs : List ℕ) → T (once (full (blocks_of W s.n)) bs) → foldl (onward W) (outcome (More s told) xs) bs
      ≡ outcome (closed W (all_taken W s xs) (all_left W s xs)) (all_left W s xs)
  unfolding at end
  round_any_order told bs o =
      ap (λ (l : List Float). foldl (onward W) (outcome (More s told) l) bs) (sym (begins_area B))
      ∙ from bs s.pending s.tau s.largest told (mid_begins B) (begins_some B) (rw B.pending o)

-- ---- rounds, each in an order of its own
ordered_done : (W : Width) (π : ℕ → List ℕ) (k i : ℕ) (x : Float) (r : ℕ) (ys : List Float) → ordered W π k i (outcome (Done x r) ys) ≡ outcome (Done x r) ys
unfolding ordered
ordered_done W π zero i x r ys = refl
ordered_done W π (suc k) i x r ys = ap (ordered W π k (suc i)) (still W 0 x r ys (π i)) ∙ ordered_done W π k (suc i) x r ys

module _ (W : Width) (F : Fitting W) (n : ℕ) (π : ℕ → List ℕ) (each : (i : ℕ) → T (once (full (blocks_of W n)) (π i))) where
  closing : {s : State} {xs : List Float} → Running W F n s xs → (told : Float) (i : ℕ)
      → foldl (onward W) (outcome (More s told) xs) (π i) ≡ outcome (closed W (all_taken W s xs) (all_left W s xs)) (all_left W s xs)
  closing {s} {xs} R told i = round_any_order R.begun told (π i) (rw R.count (each i))

  ordered_run : (k i : ℕ) (told : Float) {s : State} {xs : List Float} → Running W F n s xs
      → ordered W π k i (outcome (More s told) xs) ≡ rounds_from W (blocks_of W n) k (outcome (More s told) xs)
  unfolding ordered rounds_from
  ordered_run zero i told R = refl
  ordered_run (suc k) i told {s} {xs} R =
      ap (ordered W π k (suc i)) (closing R told i)
      ∙ agree (closed W (all_taken W s xs) (all_left W s xs)) refl (λ s' m e. ordered_run k (suc i) m (run_running R s' m e).0)
      ∙ sym (run_round R k told)
    where
      agree : (q : Step) → closed W (all_taken W s xs) (all_left W s xs) ≡ q
          → ((s' : State) (m : Float) → closed W (all_taken W s xs) (all_left W s xs) ≡ More s' m
          → ordered W π k (suc i) (outcome (More s' m) (all_left W s xs)) ≡ rounds_from W (blocks_of W n) k (outcome (More s' m) (all_left W s xs)))
          → ordered W π k (suc i) (outcome q (all_left W s xs)) ≡ rounds_from W (blocks_of W n) k (outcome q (all_left W s xs))
      agree (Done x r) e h = ordered_done W π k (suc i) x r (all_left W s xs) ∙ sym (run_done W (blocks_of W n) k x r (all_left W s xs))
      agree (Refused j p) e h = absurd (run_accepted R j p e)
      agree (More s' m) e h = h s' m e

-- ---- with any order of blocks in each round, from the opening of an accepted list
module _ {W : Width} (F : Fitting W) (k : ℕ) (ps : List ℕ) (work : List Float) (G : ListWhen W (eqb (length work) (length ps)) true ps Good) where
  pub any_order : (π : ℕ → List ℕ) → ((i : ℕ) → Perm (π i) (rising (blocks_of W (length ps))))
      → ordered W π (suc W.rounds) 0 (opened W k ps work) ≡ undivided_of W k ps work
  any_order π each = go (all_zero W.format (floats W ps)) refl
    where
      go : (b : Bool) → all_zero W.format (floats W ps) ≡ b → ordered W π (suc W.rounds) 0 (opened W k ps work) ≡ undivided_of W k ps work
      go true a = rw (opened_zero F k ps work G a)
          (ordered_done W π (suc W.rounds) 0 _ 0 (floats W ps) ∙ sym (run_done W (blocks_of W (length ps)) (suc W.rounds) _ 0 (floats W ps)))
      go false a = rw (opened_round F k ps work G a)
          (ordered_run W F (length ps) π (λ i. once_permuted (blocks_of W (length ps)) (each i)) (suc W.rounds) 0 (plus_zero W.format)
          (record { e = _; count = refl; begun = (opened_summing F k ps work G a).begun }))
