-- Of any width: exactly when each code of a sum in one call is returned, and 0; any two results that meet a contract are equal, the code and every array; and
-- another code than 0 leaves every array as it was. Assumes nothing.
use Rattle.std.specs.Prelude.{◌≡◌, refl, List, ℕ, eqb, Float, length}
use Rattle.std.proofs.Common.{ap}
use Rattle.kinds.specs.Limits.{Width}
use Rattle.kinds.specs.Outcome.{outcome}
use Rattle.kinds.proofs.OutcomeLaws.{determined}
use Rattle.kinds.specs.Heard.{step_heard, nearest_heard}
use Rattle.kinds.proofs.Hearing.{step_is}
use Rattle.kinds.specs.Step as steps
use Rattle.walk.specs.Walk.{faithful_of}
use Rattle.sums.specs.Sums.{nearest_of}
use Rattle.rounds.specs.Fitting.{Fitting}
use Rattle.demands.proofs.WalkHearing.{faithful_heard_lem, nearest_heard_lem}
use Rattle.demands.proofs.WalkRefusals.{faithful_leaves}
use Rattle.arrays.specs.Arrays.{values_of, returned, too_many_of}
use Rattle.arrays.specs.Codes.{Coded, Left}
use Rattle.arrays.specs.CodesLaws.{code_in, answer_in}
use Rattle.arrays.proofs.CodesLaws.{coded, list_some, list_nonzero, values_left, call_left, values_call_left, returned_determined}
use Rattle.sum_calls.specs.SumArrays.{faithful_with, nearest_with}
use Rattle.sum_calls.proofs.SumArraysLaws.{faithful_other, faithful_walked, nearest_other, nearest_summed}

-- ---- exactly when
module _ {W : Width} (F : Fitting W) (ps : List ℕ) (work : List Float) (out : List ℕ) where
  pub faithful_coded : Coded 2 (length out) (too_many_of W ps) (step_heard W (faithful_of W ps work).answer) (faithful_with W ps work out).code
  faithful_coded = coded 2 (length out) (too_many_of W ps) (step_heard W (faithful_of W ps work).answer)
      (λ l. ap code_in (faithful_walked W ps work out l)) (λ l. ap code_in (faithful_other W ps work out l))
      (λ p e. list_some ((faithful_heard_lem W ps work F 0 p).0 e).1 refl) (list_nonzero W ps)

module _ (W : Width) (ps out : List ℕ) where
  pub nearest_coded : Coded 1 (length out) (too_many_of W ps) (nearest_heard W (nearest_of W ps)) (nearest_with W ps out).answer
  nearest_coded = coded 1 (length out) (too_many_of W ps) (nearest_heard W (nearest_of W ps))
      (λ l. ap answer_in (nearest_summed W ps out l)) (λ l. ap answer_in (nearest_other W ps out l))
      (λ p e. list_some ((nearest_heard_lem W ps 0 p).0 e).1 refl) (list_nonzero W ps)

-- ---- determined
module _ {r q : ℕ} {xs ys : List Float} {us vs : List ℕ} where
  pub faithful_determined : (W : Width) (ps : List ℕ) (work : List Float) (out : List ℕ)
      → returned r xs us ≡ faithful_with W ps work out → returned q ys vs ≡ faithful_with W ps work out → (r ≡ q) × (xs ≡ ys) × (us ≡ vs)
  faithful_determined W ps work out = returned_determined (faithful_with W ps work out)

module _ {r q : ℕ} {us vs : List ℕ} where
  pub nearest_determined : (W : Width) (ps out : List ℕ) → outcome r us ≡ nearest_with W ps out → outcome q vs ≡ nearest_with W ps out → (r ≡ q) × (us ≡ vs)
  nearest_determined W ps out = determined (nearest_with W ps out)

-- ---- what a refusal leaves
module _ {W : Width} (F : Fitting W) (ps : List ℕ) (work : List Float) (values : List ℕ) where
  pub faithful_left : ((faithful_with W ps work values).code ≡ 0 → ⊥) → Left (faithful_with W ps work values) work values
  unfolding faithful_with
  faithful_left = call_left (step_heard W) steps.Refused (step_is W) (faithful_of W ps work) work (faithful_leaves W ps work F)
      values_of values values_left
      (eqb (length values) 2) (too_many_of W ps)

pub nearest_left : (W : Width) (ps values : List ℕ) → ((nearest_with W ps values).answer ≡ 0 → ⊥) → (nearest_with W ps values).area ≡ values
unfolding nearest_with
nearest_left W ps values = values_call_left (nearest_heard W (nearest_of W ps)) values (eqb (length values) 1) (too_many_of W ps)
