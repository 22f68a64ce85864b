-- Of any width: exactly when each code of an opening and of a step is returned, and 0; any two results that meet a contract are equal, the code and every
-- array; and another code than 0 leaves every array as it was. Assumes nothing.
use Rattle.std.specs.Prelude.{◌≡◌, refl, List, ℕ, ◌-◌, ◌*◌, T, eqb, Float, length}
use Rattle.std.proofs.Common.{ap, arith, le-leb}
use Rattle.std.specs.Float.{Format}
use Rattle.std.specs.Float.Ieee.{top, fits, to_bits}
use Rattle.std.specs.Float.Ieee.Bits.{of_bits-to_bits, to_bits-lt}
use Rattle.kinds.specs.Limits.{Width}
use Rattle.kinds.specs.States.{state_of}
use Rattle.kinds.specs.Heard.{Heard, step_heard}
use Rattle.kinds.specs.HeardLaws.{StepFits}
use Rattle.kinds.proofs.Hearing.{step_is}
use Rattle.kinds.specs.State.{State}
use Rattle.kinds.specs.Step as steps
use Rattle.kinds.specs.Verdict as verdicts
use Rattle.rounds.specs.Fitting.{Fitting}
use Rattle.walk.specs.Walk.{opened, stepped}
use Rattle.demands.specs.Tables.{StepWhen, wrong_length, other_ensemble, unsound_numbers, unsound_set, unsound_place, no_block, taken_before_lem}
use Rattle.demands.proofs.WalkHearing.{open_heard, step_heard_lem}
use Rattle.demands.proofs.WalkRefusals.{open_leaves, step_leaves}
use Rattle.arrays.specs.Arrays.{code_of, returned, too_many_of}
use Rattle.arrays.specs.Codes.{Coded, Left}
use Rattle.arrays.specs.CodesLaws.{code_in}
use Rattle.arrays.proofs.CodesLaws.{coded, list_some, list_nonzero, refused_code, call_left, returned_determined}
use Rattle.step_calls.specs.StepArrays.{walk_numbers, walk_values, float_at, state_in, open_with, step_with}
use Rattle.step_calls.proofs.StepArraysLaws.{open_other, open_walked, step_other, step_walked}

-- ---- exactly when
step_some : {W : Width} {s : State} {e b : ℕ} {work : List Float} {k i : ℕ} → StepWhen W s e b work (verdicts.Refused k i) → k ≡ 0 → ⊥
step_some (wrong_length l) z = omega arith
step_some (other_ensemble l n) z = omega arith
step_some (unsound_numbers l m n) z = omega arith
step_some (unsound_set l m N n) z = omega arith
step_some (unsound_place l m N S i F) z = omega arith
step_some (no_block l m s b) z = omega arith
step_some (taken_before_lem l m s b t) z = omega arith

module _ (W : Width) (e : ℕ) (ps : List ℕ) (work : List Float) (numbers : List ℕ) where
  pub open_coded : Coded walk_numbers (length numbers) (too_many_of W ps) (step_heard W (opened W e ps work).answer)
      (open_with W e ps work numbers).code
  open_coded = coded walk_numbers (length numbers) (too_many_of W ps) (step_heard W (opened W e ps work).answer)
      (λ l. ap code_in (open_walked W e ps work numbers l)) (λ l. ap code_in (open_other W e ps work numbers l))
      (λ p h. list_some ((open_heard W ps work e 0 p).0 h).1 refl) (list_nonzero W ps)

module _ {W : Width} (F : Fitting W) (numbers : List ℕ) (work : List Float) (e b : ℕ) where
  pub step_coded : Coded walk_numbers (length numbers) 4 (step_heard W (stepped W (state_in W numbers) e b work).answer)
      (step_with W numbers work e b).code
  step_coded = coded walk_numbers (length numbers) 4 (step_heard W (stepped W (state_in W numbers) e b work).answer)
      (λ l. ap code_in (step_walked W numbers work e b l)) (λ l. ap code_in (step_other W numbers work e b l))
      (λ p h. step_some ((step_heard_lem F (state_in W numbers) e b work 0 p).0 h).1 refl) (λ z. omega arith)

-- ---- determined
module _ {r q : ℕ} {xs ys : List Float} {us vs : List ℕ} where
  pub open_determined : (W : Width) (e : ℕ) (ps : List ℕ) (work : List Float) (numbers : List ℕ)
      → returned r xs us ≡ open_with W e ps work numbers → returned q ys vs ≡ open_with W e ps work numbers → (r ≡ q) × (xs ≡ ys) × (us ≡ vs)
  open_determined W e ps work numbers = returned_determined (open_with W e ps work numbers)

  pub step_determined : (W : Width) (numbers : List ℕ) (work : List Float) (e b : ℕ)
      → returned r xs us ≡ step_with W numbers work e b → returned q ys vs ≡ step_with W numbers work e b → (r ≡ q) × (xs ≡ ys) × (us ≡ vs)
  step_determined W numbers work e b = returned_determined (step_with W numbers work e b)

-- ---- what a step reads is what the call before it wrote
float_back : (f : Format) (x : Float) → T (fits f x) → float_at f (to_bits f x) ≡ x
float_back f x h = rw (le-leb (to_bits f x) (2 * top f - 1) (omega (arith, to_bits-lt f x h))) (of_bits-to_bits f x h)

pub state_back : (W : Width) (s : State) (told : Float) (before : List ℕ) → StepFits W (steps.More s told)
    → state_in W (walk_values (step_heard W (steps.More s told)) before) ≡ s
state_back W s told before F =
    let f = W.format in
    λ i. state_of s.n (float_back f s.sigma F.0 i) (float_back f s.t F.1 i) (float_back f s.tau F.2 i) s.pending s.rounds
    s.ensemble (float_back f s.largest F.3 i)

-- ---- what a refusal leaves
walk_left : (h : Heard) (before : List ℕ) → (code_of h ≡ 0 → ⊥) → walk_values h before ≡ before
walk_left h before n = let r = refused_code h n in ap (λ (x : Heard). walk_values x before) r.2

module _ (W : Width) (e : ℕ) (ps : List ℕ) (work : List Float) (values : List ℕ) where
  pub open_left : ((open_with W e ps work values).code ≡ 0 → ⊥) → Left (open_with W e ps work values) work values
  unfolding open_with
  open_left = call_left (step_heard W) steps.Refused (step_is W) (opened W e ps work) work (open_leaves W ps work e)
      walk_values values walk_left
      (eqb (length values) walk_numbers) (too_many_of W ps)

pub step_left : (W : Width) (values : List ℕ) (work : List Float) (e b : ℕ) → ((step_with W values work e b).code ≡ 0 → ⊥)
    → Left (step_with W values work e b) work values
unfolding step_with
step_left W values work e b = call_left (step_heard W) steps.Refused (step_is W) (stepped W (state_in W values) e b work) work
    (step_leaves W (state_in W values) e b work) walk_values values walk_left (eqb (length values) walk_numbers) 4
