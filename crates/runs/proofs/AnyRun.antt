-- Every sequence of permutations of the blocks, one per round, is a run that ends as the undivided call does. Assumes nothing.
use Rattle.std.specs.Prelude.{◌≡◌, true, eqb, length, Float}
use Rattle.std.proofs.Math.Path.{refl, sym}
use Rattle.std.proofs.Common.{ap, subst, ◌∙◌, arith}
use mathlib.Core.List.{List, [], ◌∷◌, foldl, foldl-append, Perm}
use Prim.Native.Nat.{ℕ, zero, suc, ◌+◌}
use Rattle.kinds.specs.Limits.{Width, blocks_of}
use Rattle.kinds.specs.Outcome.{outcome}
use Rattle.kinds.specs.State.{State}
use Rattle.kinds.specs.Step.{Step}
use Rattle.kinds.specs.Step.{More, Done, Refused}
use Rattle.kinds.specs.Verdict.{Good}
use Rattle.judge.specs.Table.{ListWhen}
use Rattle.rounds.specs.Fitting.{Fitting}
use Rattle.walk.specs.Walk.{Walked, opened, onward, rising, stepped, faithful_of}
use Rattle.walk.specs.Ensembles.{Named}
use Rattle.walk.proofs.Ensembles.{stepped_named, opened_named}
use Rattle.runs.proofs.Numbered.{undivided_same}
use Rattle.runs.specs.Runs.{heeded, tried, run_of, ordered, in_turn}
use Rattle.runs.proofs.Faithful.{faithful_promised}
use Rattle.runs.proofs.AnyOrder.{any_order}

module _ (W : Width) (e : ℕ) where
  ended : (x : Float) (k : ℕ) (ys : List Float) (m : ℕ) (bs : List ℕ) → (foldl (tried W e) (record { walk = outcome (Done x k) ys; steps = m }) bs).walk
      ≡ foldl (onward W) (outcome (Done x k) ys) bs
  ended x k ys m [] = refl
  ended x k ys m (b ∷ bs) = ended x k ys m bs

  stuck : (k p : ℕ) (ys : List Float) (bs : List ℕ) → (foldl (onward W) (outcome (Refused k p) ys) bs).answer ≡ Refused k p
  stuck k p ys [] = refl
  stuck k p ys (b ∷ bs) = stuck k p ys bs

  along : (bs : List ℕ) (a : Step) (ys : List Float) (m : ℕ) → Named e a → ((k p : ℕ) → (foldl (onward W) (outcome a ys) bs).answer ≡ Refused k p → ⊥)
      → (foldl (tried W e) (record { walk = outcome a ys; steps = m }) bs).walk ≡ foldl (onward W) (outcome a ys) bs
  along [] a ys m N h = refl
  along (b ∷ bs) (Done x k) ys m N h = ended x k ys m (b ∷ bs)
  along (b ∷ bs) (Refused k p) ys m N h = absurd (h k p (stuck k p ys (b ∷ bs)))
  along (b ∷ bs) (More s told) ys m N h =
      let w = stepped W s s.ensemble b ys in
      ap (λ (j : ℕ). (foldl (tried W e) (heeded (record { walk = outcome (More s told) ys; steps = m }) (stepped W s j b ys)) bs).walk) (sym N)
      ∙ after w.answer w.area (λ s' l zs. along bs (More s' l) zs (m + 1))
      (subst (λ (j : ℕ). Named j w.answer) N (stepped_named W s s.ensemble b ys)) h
    where
      after : (q : Step) (zs : List Float)
          → ((s' : State) (l : Float) (zs : List Float) → s'.ensemble ≡ e
          → ((k p : ℕ) → (foldl (onward W) (outcome (More s' l) zs) bs).answer ≡ Refused k p → ⊥)
          → (foldl (tried W e) (record { walk = outcome (More s' l) zs; steps = m + 1 }) bs).walk ≡ foldl (onward W) (outcome (More s' l) zs) bs)
          → Named e q → ((k p : ℕ) → (foldl (onward W) (outcome q zs) bs).answer ≡ Refused k p → ⊥)
          → (foldl (tried W e) (heeded (record { walk = outcome (More s told) ys; steps = m }) (outcome q zs)) bs).walk ≡ foldl (onward W) (outcome q zs) bs
      after (More s' l) zs i N h = i s' l zs N h
      after (Done x k) zs i N h = ended x k zs (m + 1) bs
      after (Refused k p) zs i N h = absurd (h k p (stuck k p zs bs))

  chained : (π : ℕ → List ℕ) (k i : ℕ) (w : Walked) → ordered W π k i w ≡ foldl (onward W) w (in_turn π k i)
  unfolding ordered in_turn
  chained π zero i w = refl
  chained π (suc k) i w = chained π k (suc i) (foldl (onward W) w (π i)) ∙ sym (foldl-append (onward W) w (π i) (in_turn π k (suc i)))

-- rule DR4
module _ {W : Width} (F : Fitting W) (e : ℕ) (ps : List ℕ) (work : List Float) (G : ListWhen W (eqb (length work) (length ps)) true ps Good) where
  pub any_run : (π : ℕ → List ℕ) → ((i : ℕ) → Perm (π i) (rising (blocks_of W (length ps))))
      → (run_of W e ps work (in_turn π (suc W.rounds) 0)).walk ≡ faithful_of W ps work
  any_run π each =
      let w = opened W e ps work in
      let whole : foldl (onward W) w (in_turn π (suc W.rounds) 0) ≡ faithful_of W ps work =
      sym (chained W e π (suc W.rounds) 0 w) ∙ any_order F e ps work G π each ∙ undivided_same F e ps work G in
      along W e (in_turn π (suc W.rounds) 0) w.answer w.area 0 (opened_named W e ps work)
      (λ k p h. never k p (sym (ap (λ (q : Walked). q.answer) whole) ∙ h))
      ∙ whole
    where
      never : (k p : ℕ) → (faithful_of W ps work).answer ≡ Refused k p → ⊥
      never k p h =
          let d = sym (faithful_promised F ps work G).answer ∙ h in
          let z : ◌≡◌ {A = ℕ} 0 1 = cc in omega arith
