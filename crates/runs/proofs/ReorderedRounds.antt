-- The rounds of a walk don't depend on the order of the list's numbers: tau is exact and mu a maximum, so that two walks over the same numbers in two orders
-- close alike round for round, with the same numbers left in their orders. Assumes nothing.
use Rattle.std.specs.Prelude.{◌≡◌, Bool, true, false, cond, eqb, ℤ, pos, nat_abs, ◌+ℤ◌, length, Float}
use Rattle.std.proofs.Math.Path.{refl}
use Rattle.std.proofs.Common.{sym, ap, ◌∙◌, arith}
use mathlib.Core.List.Perm
use mathlib.Core.List.{List, [], ◌∷◌, map, Perm}
use Prim.Native.Nat.{ℕ, zero, suc, ◌+◌, ◌^◌, ◌≤◌, max}
use Rattle.std.proofs.Math.Nat.{ℕ_set}
use Rattle.std.proofs.Math.IntN.{+ℤ_assoc, +ℤ_idr}
use Rattle.std.specs.Float.{Format}
use Rattle.std.specs.Float.Ieee.{of_bits, add, eq}
use Rattle.units.specs.Whole.{exact_sum}
use Rattle.units.proofs.ExactSum.{sum_reordered}
use Rattle.units.proofs.Ceiling.{ceil_ge}
use Rattle.ieee.specs.Units.{magnitude, value}
use Rattle.ieee.proofs.Sum.{value_mag}
use Rattle.ieee.proofs.Finite.{same_float}
use Rattle.lists.proofs.Apart.{apart}
use Rattle.lists.proofs.Reordered.{length_reordered}
use Rattle.kinds.specs.Limits.{Width, exponent_of, blocks_of}
use Rattle.kinds.specs.Outcome.{outcome}
use Rattle.kinds.specs.State.{State}
use Rattle.kinds.specs.Step.{Step}
use Rattle.kinds.specs.Step.{More, Done}
use Rattle.kinds.specs.Verdict.{Good}
use Rattle.judge.specs.Judge.{floats}
use Rattle.judge.specs.Table.{ListWhen}
use Rattle.extract.specs.Extract.{plus_zero, high_part, remainder_of, remainders, gathered, largest}
use Rattle.rounds.specs.Round.{all_taken, all_left, all_zero, fresh, finished, fresh_round, closed_by, closed}
use Rattle.rounds.specs.ClosedLaws.{tau1_of, finishes, further_round}
use Rattle.rounds.specs.Exactness.{ExactSums}
use Rattle.rounds.specs.Fitting.{Fitting}
use Rattle.rounds.specs.InUnits.{gathers, gathers_exact}
use Rattle.extract.proofs.LargestWithLaws.{positive_same}
use Rattle.rounds.specs.Begun.{Begun, first_tau, largest_left}
use Rattle.walk.specs.Walk.{Walked, rounds_from, faithful_of}
use Rattle.walk.specs.Run.{Running, run_round, run_running, run_done}
use Rattle.runs.proofs.OpenedSum.{opened_zero, opened_round, opened_summing}
use Rattle.runs.specs.ReorderedRounds.{SameRounds}
use Rattle.runs.specs.ReorderedRounds.{ended}
use Rattle.runs.specs.ReorderedRounds.{going}

-- ---- mu, and tau after all numbers
largest_reordered : (f : Format) {xs ys : List Float} → Perm xs ys → largest f xs ≡ largest f ys
unfolding largest
largest_reordered f π = Perm.foldr-eq ℕ_set (λ x m. max (magnitude f x) m) (λ a b m. omega arith) π 0

gathered_value : (f : Format) (sigma tau : Float) (xs : List Float) → ExactSums f sigma tau xs
    → value f (gathered f sigma tau xs) ≡ value f tau +ℤ exact_sum (map (λ (x : Float). value f (high_part f sigma x)) xs)
unfolding gathered
gathered_value f sigma tau [] E = sym (+ℤ_idr (value f tau))
gathered_value f sigma tau (x ∷ xs) E =
    let q = value f (high_part f sigma x) in
    let rest = exact_sum (map (λ (x : Float). value f (high_part f sigma x)) xs) in
    gathered_value f sigma (add f tau (high_part f sigma x)) xs E.3
    ∙ ap (λ (z : ℤ). z +ℤ rest) E.2
    ∙ +ℤ_assoc (value f tau) q rest

module _ {W : Width} {F : Fitting W} {d e : ℕ} {s : State} {xs ys : List Float} (B : Begun W F d s xs) (C : Begun W F e s ys) (π : Perm xs ys) where
  tau_reordered : (all_taken W s xs).tau ≡ (all_taken W s ys).tau
  tau_reordered =
      let f = W.format in
      let T = (gathers B.scale xs (first_tau B) B.work (within B)).0 in
      let U = (gathers C.scale ys (first_tau C) C.work (within C)).0 in
      let v = gathered_value f s.sigma s.tau xs (gathers_exact B.scale xs (first_tau B) B.work (within B)) in
      let w = gathered_value f s.sigma s.tau ys (gathers_exact C.scale ys (first_tau C) C.work (within C)) in
      let o = ap (λ (z : ℤ). value f s.tau +ℤ z) (sum_reordered (Perm.map (λ (x : Float). value f (high_part f s.sigma x)) π)) in
      let a = v ∙ o ∙ sym w in
      same_float T.number U.number a (λ z. T.plus (none _ z) ∙ sym (U.plus (none _ (sym a ∙ z))))
    where
      within : {c : ℕ} {zs : List Float} → Begun W F c s zs → 0 + length zs ≤ 2 ^ exponent_of s.n
      within D = omega (arith, D.count, ceil_ge (s.n + 2))

      none : (x : Float) → value W.format x ≡ pos 0 → magnitude W.format x ≡ 0
      none x z = sym (value_mag W.format x) ∙ ap nat_abs z

-- ---- a close
data Closes : Step → Step → Type 0 where
  goes : (s : State) (told : Float) → Closes (More s told) (More s told)
  ends : (x y : Float) (r : ℕ) → Closes (Done x r) (Done y r)

-- of the area only the last sum is asked, and mu
closes_alike : (W : Width) (mu : ℕ) (s : State) (xs ys : List Float) → Closes (closed_by W mu s xs) (closed_by W mu s ys)
unfolding closed_by fresh
closes_alike W mu s xs ys = go (eq (tau1_of W s) (plus_zero W.format)) (eqb mu 0) (finishes W s)
  where
    f : Format
    f = W.format

    at : List Float → Bool → Bool → Bool → Step
    at zs a b c =
        cond a (cond b (Done (plus_zero f) (s.rounds + 1)) (More (fresh_round W s.n mu (s.rounds + 1) s.ensemble) s.largest))
        (cond c (Done (finished f (tau1_of W s) s.t s.tau zs) (s.rounds + 1)) (More (further_round W s) s.largest))

    go : (a b c : Bool) → Closes (at xs a b c) (at ys a b c)
    go true true c = ends _ _ _
    go true false c = goes _ _
    go false b true = ends _ _ _
    go false b false = goes _ _

module _ {W : Width} {F : Fitting W} {n : ℕ} where
  rounds_alike : (k : ℕ) (told : Float) {s : State} {xs ys : List Float} → Running W F n s xs → Running W F n s ys → Perm xs ys
      → SameRounds (rounds_from W (blocks_of W n) k (outcome (More s told) xs)) (rounds_from W (blocks_of W n) k (outcome (More s told) ys))
  unfolding rounds_from remainders
  rounds_alike zero told {s} R Q π = going s told π
  rounds_alike (suc k) told {s} {xs} {ys} R Q π =
      rw (run_round R k told, run_round Q k told)
      (after same refl refl (λ s' m a b. rounds_alike k m (run_running R s' m a).0 (run_running Q s' m b).0 left))
    where
      left : Perm (all_left W s xs) (all_left W s ys)
      left = Perm.map (remainder_of W.format s.sigma) π

      kept_reordered : (all_taken W s xs).largest ≡ (all_taken W s ys).largest
      kept_reordered =
          positive_same (largest_left R.begun) (rw (largest_reordered W.format left) (largest_left Q.begun))

      same : Closes (closed W (all_taken W s xs) (all_left W s xs)) (closed W (all_taken W s ys) (all_left W s ys))
      same =
          rw (tau_reordered R.begun Q.begun π, kept_reordered)
          (closes_alike W (magnitude W.format (all_taken W s ys).largest) (all_taken W s ys) (all_left W s xs) (all_left W s ys))

      close : List Float → Step
      close zs = closed W (all_taken W s zs) (all_left W s zs)

      ends_with : Step → List Float → Walked
      ends_with q zs = rounds_from W (blocks_of W n) k (outcome q (all_left W s zs))

      after : {p q : Step} → Closes p q → close xs ≡ p → close ys ≡ q
          → ((s' : State) (m : Float) → close xs ≡ More s' m → close ys ≡ More s' m → SameRounds (ends_with (More s' m) xs) (ends_with (More s' m) ys))
          → SameRounds (ends_with p xs) (ends_with q ys)
      after (goes s' m) a b next = next s' m a b
      after (ends x y r) a b next =
          rw (run_done W (blocks_of W n) k x r (all_left W s xs), run_done W (blocks_of W n) k y r (all_left W s ys)) (ended x y r left)

-- ---- two accepted lists
module _ {W : Width} (F : Fitting W) {ps qs : List ℕ} (π : Perm ps qs) (work room : List Float)
    (G : ListWhen W (eqb (length work) (length ps)) true ps Good) (H : ListWhen W (eqb (length room) (length qs)) true qs Good) where
  numbers : Perm (floats W ps) (floats W qs)
  numbers = Perm.map (of_bits W.format) π

  mu_same : largest W.format (floats W ps) ≡ largest W.format (floats W qs)
  mu_same = largest_reordered W.format numbers

  pub rounds_reordered : SameRounds (faithful_of W ps work) (faithful_of W qs room)
  rounds_reordered = go (all_zero W.format (floats W ps)) refl (ap (λ (m : ℕ). eqb m 0) (sym mu_same))
    where
      go : (b : Bool) → all_zero W.format (floats W ps) ≡ b → all_zero W.format (floats W qs) ≡ all_zero W.format (floats W ps)
          → SameRounds (faithful_of W ps work) (faithful_of W qs room)
      go true a e =
          rw (
            opened_zero F 0 ps work G a,
            opened_zero F 0 qs room H (e ∙ a),
            run_done W (blocks_of W (length ps)) (suc W.rounds) _ 0 (floats W ps),
            run_done W (blocks_of W (length qs)) (suc W.rounds) _ 0 (floats W qs),
          )
          (ended _ _ 0 numbers)
      go false a e =
          let R : Running W F (length ps) _ _ = record { e = _; count = refl; begun = (opened_summing F 0 ps work G a).begun } in
          let Q : Running W F (length qs) _ _ = record { e = _; count = refl; begun = (opened_summing F 0 qs room H (e ∙ a)).begun } in
          rw (opened_round F 0 ps work G a, opened_round F 0 qs room H (e ∙ a), ← (length_reordered π), ← mu_same)
          (rounds_alike (suc W.rounds) (plus_zero W.format) R (rw (← (length_reordered π), ← mu_same) at Q) numbers)

-- what two walks that have ended have in common
pub ended_alike : {v w : Walked} {x y : Float} {j k : ℕ} {xs ys : List Float} → SameRounds v w → v ≡ outcome (Done x j) xs → w ≡ outcome (Done y k) ys
    → (j ≡ k) × Perm xs ys
ended_alike (going s told π) e d = let m = ap (λ (w : Walked). w.answer) e in apart (cc)
ended_alike (ended a b r π) e d =
    let m = ap (λ (w : Walked). w.answer) e in
    let n = ap (λ (w : Walked). w.answer) d in
    (cc, rw (ap (λ (w : Walked). w.area) e, ap (λ (w : Walked). w.area) d) at π)
