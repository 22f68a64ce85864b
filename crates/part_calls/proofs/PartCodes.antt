-- Exactly when each code of a sum in parts is returned, and 0; any two results that meet the contract are equal, the code and every array; and another code
-- than 0 leaves every array as it was. Assumes nothing.
use Rattle.std.specs.Prelude.{◌≡◌, refl, List, ℕ, eqb, Float, length}
use Rattle.std.proofs.Common.{ap}
use Rattle.kinds.specs.Limits.{doubles}
use Rattle.kinds.specs.Heard.{parted_heard}
use Rattle.kinds.proofs.Hearing.{parted_is}
use Rattle.kinds.specs.Parted as parteds
use Rattle.sums.specs.Sums.{parts_of}
use Rattle.demands.proofs.Hearing.{parts_heard}
use Rattle.demands.proofs.Refusals as refusals
use Rattle.arrays.specs.Arrays.{values_of, returned, too_many_or_4}
use Rattle.arrays.specs.Codes.{Coded, Left}
use Rattle.arrays.specs.CodesLaws.{code_in}
use Rattle.arrays.proofs.CodesLaws.{coded, list_some, list_nonzero, values_left, call_left, returned_determined}
use Rattle.part_calls.specs.PartArrays.{parts_arrays}
use Rattle.part_calls.proofs.PartArraysLaws.{parts_other, parts_parted}

-- ---- exactly when
module _ (ps : List ℕ) (area : List Float) (out : List ℕ) where
  pub parts_coded : Coded 1 (length out) (too_many_or_4 ps) (parted_heard (parts_of doubles ps area).answer) (parts_arrays ps area out).code
  parts_coded = coded 1 (length out) (too_many_or_4 ps) (parted_heard (parts_of doubles ps area).answer)
      (λ l. ap code_in (parts_parted ps area out l)) (λ l. ap code_in (parts_other ps area out l))
      (λ p e. list_some ((parts_heard ps area 0 p).0 e).1 refl) (list_nonzero doubles ps)

-- ---- determined
module _ {r q : ℕ} {xs ys : List Float} {us vs : List ℕ} where
  pub parts_determined : (ps : List ℕ) (area : List Float) (out : List ℕ)
      → returned r xs us ≡ parts_arrays ps area out → returned q ys vs ≡ parts_arrays ps area out → (r ≡ q) × (xs ≡ ys) × (us ≡ vs)
  parts_determined ps area out = returned_determined (parts_arrays ps area out)

-- ---- what a refusal leaves
module _ (ps : List ℕ) (work : List Float) (values : List ℕ) where
  pub parts_left : ((parts_arrays ps work values).code ≡ 0 → ⊥) → Left (parts_arrays ps work values) work values
  unfolding parts_arrays
  parts_left = call_left parted_heard parteds.Refused parted_is (parts_of doubles ps work) work (refusals.parts_leaves ps work) values_of values values_left
      (eqb (length values) 1) (too_many_or_4 ps)
