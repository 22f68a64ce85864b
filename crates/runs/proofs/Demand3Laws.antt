-- Rule D3: every run over an accepted list goes on as `Going` says, or has finished as `Finished` says; its accepted steps are bounded. Assumes nothing.
use Rattle.std.specs.Prelude.{◌≡◌, refl, Bool, true, false, ℕ, zero, suc, ◌+◌, ◌-◌, ◌*◌, ◌≤◌, ◌<◌, eqb, length, Float}
use Rattle.std.proofs.Common.{sym, ap, ◌∙◌, inl, inr, le-div_iff_mul-le, mul-le-mul_right, add-mul, suc-mul, arith}
use mathlib.Core.List.{List, [], ◌∷◌, ◌++◌, foldl}
use Rattle.std.specs.Float.Ieee.{prec}
use Rattle.units.specs.Walk.{rounded_up}
use Rattle.lists.proofs.Apart.{apart}
use Rattle.kinds.specs.Limits.{Width, exponent_of, blocks_of}
use Rattle.kinds.specs.State.{State}
use Rattle.kinds.specs.Step.{More, Done}
use Rattle.kinds.specs.Verdict.{Good}
use Rattle.judge.specs.Table.{ListWhen}
use Rattle.judge.proofs.JudgeLaws.{list_passed}
use Rattle.judge.specs.Judge.{floats}
use Rattle.rounds.specs.Round.{all_zero}
use Rattle.rounds.specs.Fitting.{Fitting}
use Rattle.walk.specs.Walk.{Walked, opened, faithful_of}
use Rattle.runs.proofs.Numbered.{undivided_same}
use Rattle.runs.specs.Faithful.{FaithfulSum}
use Rattle.runs.proofs.Faithful.{faithful_promised}
use Rattle.runs.specs.Runs.{Ran, tried, run_of, members}
use Rattle.runs.specs.OpenedSum.{zero_of}
use Rattle.runs.proofs.OpenedSum.{opened_zero, opened_round}
use Rattle.runs.proofs.Reached.{Over, Reached, reached_opens, reached_run}
use Rattle.runs.specs.Demand3.{Going, Finished}
use Rattle.runs.proofs.GoingLaws.{goes_on, bounded}

module _ {W : Width} (F : Fitting W) (e : ℕ) (ps : List ℕ) (work : List Float) where
  -- ---- a run that has finished
  module _ (r : Ran) (O : Over W F e ps work r) (G : ListWhen W (eqb (length work) (length ps)) true ps Good) where
    finishes : (x : Float) (k : ℕ) → r.walk.answer ≡ Done x k → Finished W F.top ps work r x k
    finishes x k h = record {
      undivided = O.undivided ∙ undivided_same F e ps work G;
      faithful = rw sum_is at P.faithful;
      steps = rw (sym rounds_is) O.steps;
      rounds = few k rounds_is;
      most = omega (arith, P.most, told_rounds);
    }
      where
        P : FaithfulSum W ps (faithful_of W ps work)
        P = faithful_promised F ps work G

        mine : Done O.sum O.rounds ≡ Done x k
        mine = sym O.answer ∙ h

        rounds_is : O.rounds ≡ k
        rounds_is = let m = mine in cc

        told : Done P.sum P.rounds ≡ Done x k
        told = sym P.answer ∙ sym (ap (λ (w : Walked). w.answer) (O.undivided ∙ undivided_same F e ps work G)) ∙ h

        sum_is : P.sum ≡ x
        sum_is = let m = told in cc

        told_rounds : P.rounds ≡ k
        told_rounds = let m = told in cc

        few : (k : ℕ) → O.rounds ≡ k
            → k ≤ 1 + rounded_up (F.top + 1 - prec W.format + exponent_of (length ps)) (prec W.format - exponent_of (length ps))
        few zero e = omega arith
        few (suc j) e =
            let p = prec W.format in
            let M = exponent_of (length ps) in
            let apart : M < p = omega (arith, F.most_is (length ps) (list_passed G).few, F.half) in
            let l : j * (p - M) ≤ F.top + 1 - p + M + (p - M - 1) = omega (arith, O.lowered j e) in
            let d = (le-div_iff_mul-le {k = p - M} {x = j} {y = F.top + 1 - p + M + (p - M - 1)} (omega arith)).1 l in
            omega arith

  -- ---- every run over an accepted list
  module _ (G : ListWhen W (eqb (length work) (length ps)) true ps Good) (bs : List ℕ) where
    reached : Reached W F e ps work (run_of W e ps work bs)
    reached = reached_run W F e ps work bs _ (reached_opens W F e ps work G)

    pub run_goes : (s : State) (told : Float) → (run_of W e ps work bs).walk.answer ≡ More s told → Going W e ps (run_of W e ps work bs) s
    run_goes s told h = go reached
      where
        go : Reached W F e ps work (run_of W e ps work bs) → Going W e ps (run_of W e ps work bs) s
        go (inl D) = goes_on F e ps work _ D s told h
        go (inr O) = let m : Done O.sum O.rounds ≡ More s told = sym O.answer ∙ h in apart (cc)

    pub run_finishes : (x : Float) (k : ℕ) → (run_of W e ps work bs).walk.answer ≡ Done x k → Finished W F.top ps work (run_of W e ps work bs) x k
    run_finishes x k h = go reached
      where
        go : Reached W F e ps work (run_of W e ps work bs) → Finished W F.top ps work (run_of W e ps work bs) x k
        go (inl D) =
            let m = sym (ap (λ (w : Walked). w.answer) D.walk) ∙ h in apart (cc)
        go (inr O) = finishes _ O G x k h

    -- no run has more accepted steps than this
    pub run_bounded : (run_of W e ps work bs).steps ≤ suc W.rounds * blocks_of W (length ps)
    run_bounded = go reached
      where
        go : Reached W F e ps work (run_of W e ps work bs) → (run_of W e ps work bs).steps ≤ suc W.rounds * blocks_of W (length ps)
        go (inl D) = bounded F e ps work _ D
        go (inr O) =
            let most = (finishes _ O G O.sum O.rounds O.answer).most in
            omega (arith, O.steps, mul-le-mul_right (blocks_of W (length ps)) most)

    -- rule DR4: no steps
    pub run_at_once : (x : Float) (k : ℕ) → (opened W e ps work).answer ≡ Done x k → (k ≡ 0) × ((run_of W e ps work bs).steps ≡ 0)
    run_at_once x k h = (none (all_zero W.format (floats W ps)) refl, ap (λ (r : Ran). r.steps) (stays bs))
      where
        none : (b : Bool) → all_zero W.format (floats W ps) ≡ b → k ≡ 0
        none true a = let m : Done (zero_of W ps) 0 ≡ Done x k = sym (ap (λ (w : Walked). w.answer) (opened_zero F e ps work G a)) ∙ h in cc
        none false a =
            let m = sym (ap (λ (w : Walked). w.answer) (opened_round F e ps work G a)) ∙ h in apart (cc)

        start : Ran
        start = record { walk = opened W e ps work; steps = 0 }

        still : (b : ℕ) → tried W e start b ≡ start
        still b = rw h

        stays : (bs : List ℕ) → foldl (tried W e) start bs ≡ start
        stays [] = refl
        stays (b ∷ bs) = ap (λ (r : Ran). foldl (tried W e) r bs) (still b) ∙ stays bs

module _ {W : Width} (F : Fitting W) (e : ℕ) (ps : List ℕ) (work : List Float) (G : ListWhen W (eqb (length work) (length ps)) true ps Good) (bs : List ℕ) where
  -- rule DR3's bound: the steps of the rounds that it may still open, and of its pending blocks
  pub run_left : (s : State) (told : Float) → (run_of W e ps work bs).walk.answer ≡ More s told → (cs : List ℕ)
      → (run_of W e ps work (bs ++ cs)).steps
      ≤ (run_of W e ps work bs).steps + ((W.rounds - s.rounds) * blocks_of W (length ps) + members s.pending (blocks_of W (length ps)))
  run_left s told h cs =
      let B = blocks_of W (length ps) in
      let g = run_goes F e ps work G bs s told h in
      let k = W.rounds - s.rounds in
      let r : suc W.rounds ≡ suc s.rounds + k = omega (arith, g.rounds) in
      let m : suc W.rounds * B ≡ suc s.rounds * B + k * B = rw r (add-mul (suc s.rounds) k B) in
      omega (arith, run_bounded F e ps work G (bs ++ cs), rw g.count at g.steps, m, suc-mul s.rounds B)

-- rule DR5: two runs that have ended, under any two numbers and in any two orders, have the same sum, rounds and remainders
module _ {W : Width} (F : Fitting W) (j k : ℕ) (ps : List ℕ) (work : List Float) (G : ListWhen W (eqb (length work) (length ps)) true ps Good) where
  pub ends_alike : (bs cs : List ℕ) (x y : Float) (m n : ℕ) → (run_of W j ps work bs).walk.answer ≡ Done x m → (run_of W k ps work cs).walk.answer ≡ Done y n
      → (run_of W j ps work bs).walk ≡ (run_of W k ps work cs).walk
  ends_alike bs cs x y m n g h = (run_finishes F j ps work G bs x m g).undivided ∙ sym (run_finishes F k ps work G cs y n h).undivided
