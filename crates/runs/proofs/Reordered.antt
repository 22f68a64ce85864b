-- Faithful walks over a list and over the same numbers in another order: their sums are the same float, or neighbours, and one float where S is one; they have
-- as many rounds, and the same remainders in their orders. And how far off each sum is. Assumes nothing.
use Rattle.std.specs.Prelude.{◌≡◌, refl, true, ℕ, eqb, pos, nat_abs, length, Float}
use Rattle.std.proofs.Common.{sym, ap, ◌∙◌}
use mathlib.Core.List.{List, [], ◌∷◌, foldl, Perm}
use Rattle.ieee.specs.Units.{Number, negative, value}
use Rattle.ieee.specs.Accuracy.{FaithfulTo, EqualOrNeighbouring, CloseTo}
use Rattle.ieee.proofs.Finite.{same_float}
use Rattle.ieee.proofs.Sum.{value_mag}
use Rattle.ieee.proofs.TwoFaithful.{two_faithful}
use Rattle.lists.proofs.Apart.{apart}
use Rattle.kinds.specs.Limits.{Width}
use Rattle.kinds.specs.Outcome.{outcome}
use Rattle.kinds.specs.Step.{Step}
use Rattle.kinds.specs.Step.{Done, Refused}
use Rattle.kinds.specs.Verdict.{Verdict}
use Rattle.kinds.specs.Verdict as verdicts
use Rattle.judge.specs.Judge.{judged, zero_sign}
use Rattle.judge.specs.Table.{ListWhen}
use Rattle.judge.proofs.JudgeLaws.{list_when}
use Rattle.sums.specs.Sums.{sum_of}
use Rattle.sums.proofs.Reordered.{sum_of_reordered, zero_sign_reordered}
use Rattle.rounds.specs.Fitting.{Fitting}
use Rattle.walk.specs.Walk.{Walked, faithful_of}
use Rattle.walk.specs.OpeningLaws.{opened_refused}
use Rattle.walk.proofs.UndividedLaws.{faithful_refused}
use Rattle.runs.specs.Faithful.{FaithfulSum}
use Rattle.runs.proofs.Faithful.{faithful_promised}
use Rattle.runs.specs.Runs.{Ran, tried, run_of}
use Rattle.runs.proofs.Demand3Laws.{run_finishes}
use Rattle.runs.specs.Reordering.{Summed, undivided, by_blocks}
use Rattle.runs.proofs.ReorderedRounds.{rounds_reordered, ended_alike}

abbrev answer_of : Walked → Step
answer_of w = w.answer

-- ---- a sum comes from an accepted list only
module _ {W : Width} (F : Fitting W) (ps : List ℕ) (work : List Float) where
  abbrev Accepted : Type 0
  Accepted = ListWhen W (eqb (length work) (length ps)) true ps verdicts.Good

  -- a run over a refused list is at its refusal all along
  stuck : (e k p : ℕ) (r : Ran) (bs : List ℕ) → r.walk.answer ≡ Refused k p → (foldl (tried W e) r bs).walk.answer ≡ Refused k p
  stuck e k p r [] h = h
  stuck e k p r (b ∷ bs) h = stuck e k p (tried W e r b) bs (rw h)

  -- where the list is refused, so is what is heard of its walk
  accepted : (w : Walked) → ((k p : ℕ) → judged W (eqb (length work) (length ps)) true ps ≡ verdicts.Refused k p → w.answer ≡ Refused k p)
      → {x : Float} {k : ℕ} → w.answer ≡ Done x k → Accepted
  accepted w refused {x} {k} h = by (judged W (eqb (length work) (length ps)) true ps) refl
    where
      by : (v : Verdict) → judged W (eqb (length work) (length ps)) true ps ≡ v → Accepted
      by verdicts.Good g = (list_when W _ true ps verdicts.Good).0 g
      by (verdicts.Refused j p) g = let m : Refused j p ≡ Done x k = sym (refused j p g) ∙ h in apart (cc)

  call_accepted : {x : Float} {k : ℕ} → (faithful_of W ps work).answer ≡ Done x k → Accepted
  call_accepted = accepted (faithful_of W ps work)
      (λ k p g. sym (ap answer_of (faithful_refused F 0 ps work (Refused k p) work (opened_refused W 0 _ k p ps work g) k p refl)))

  run_accepted : (e : ℕ) (bs : List ℕ) {x : Float} {k : ℕ} → (run_of W e ps work bs).walk.answer ≡ Done x k → Accepted
  run_accepted e bs = accepted (run_of W e ps work bs).walk (λ k p g. stuck e k p _ bs (sym (ap answer_of (opened_refused W e _ k p ps work g))))

-- ---- each walk is one of the undivided call over an accepted list
record Undivided (W : Width) (ps : List ℕ) (x : Float) (k : ℕ) (xs : List Float) : Type 0 where
  pub work : List Float
  pub accepted : ListWhen W (eqb (length work) (length ps)) true ps verdicts.Good
  pub is : faithful_of W ps work ≡ outcome (Done x k) xs

module _ {W : Width} (F : Fitting W) {ps : List ℕ} {x : Float} {k : ℕ} {xs : List Float} where
  call : Summed W ps x k xs → Undivided W ps x k xs
  call (undivided work e) = record { work = work; accepted = call_accepted F ps work (ap answer_of e); is = e }
  call (by_blocks j work bs e) =
      let G = run_accepted F ps work j bs (ap answer_of e) in
      record { work = work; accepted = G; is = sym (run_finishes F j ps work G bs x k (ap answer_of e)).undivided ∙ e }

  module _ (s : Summed W ps x k xs) where
    U : Undivided W ps x k xs
    U = call s

    P : FaithfulSum W ps (faithful_of W ps U.work)
    P = faithful_promised F ps U.work U.accepted

    same : P.sum ≡ x
    same = let m : Done P.sum P.rounds ≡ Done x k = sym P.answer ∙ ap answer_of U.is in cc

    pub summed_faithful : FaithfulTo W.format (sum_of W.format ps) x
    summed_faithful = rw same at P.faithful

    sign : value W.format x ≡ pos 0 → negative x ≡ zero_sign W ps
    sign z = rw (← same) (P.zero (sym (value_mag W.format P.sum) ∙ ap (λ (y : Float). nat_abs (value W.format y)) same ∙ ap nat_abs z))

    -- rule S9
    pub summed_close : CloseTo W.format (sum_of W.format ps) x
    summed_close = rw same at P.close

-- ---- rule S8
module _ {W : Width} (F : Fitting W) {ps qs : List ℕ} (π : Perm ps qs) {x y : Float} {j k : ℕ} {xs ys : List Float}
    (s : Summed W ps x j xs) (t : Summed W qs y k ys) where
  faithful_y : FaithfulTo W.format (sum_of W.format ps) y
  faithful_y = rw (sum_of_reordered π W) (summed_faithful F t)

  signs : value W.format x ≡ pos 0 → value W.format y ≡ pos 0 → negative x ≡ negative y
  signs a b = sign F s a ∙ zero_sign_reordered π W ∙ sym (sign F t b)

  pub summed_reordered : EqualOrNeighbouring W.format x y
  summed_reordered = two_faithful (summed_faithful F s) faithful_y signs

  -- where S is a number of the format, zero say, they are one float
  pub summed_exact : (z : Float) → Number W.format z → value W.format z ≡ sum_of W.format ps → x ≡ y
  summed_exact z Z e =
      let a = (summed_faithful F s).exact z Z e in
      let b = faithful_y.exact z Z e in
      same_float (summed_faithful F s).number faithful_y.number (a ∙ sym b) (λ o. signs o (b ∙ sym a ∙ o))

  -- as many rounds, and the same remainders in their order
  pub summed_rounds : (j ≡ k) × Perm xs ys
  summed_rounds =
      let u = call F s in
      let v = call F t in
      ended_alike (rounds_reordered F π u.work v.work u.accepted v.accepted) u.is v.is
