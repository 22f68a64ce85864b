-- Exactly when each code of a call on pairs is returned, and 0; any two results that meet a contract are equal, the code and the array; and another code than 0
-- leaves the array as it was. Assumes nothing.
use Rattle.std.specs.Prelude.{◌≡◌, refl, ◌↔◌, List, ℕ, eqb, length}
use Rattle.std.proofs.Common.{ap}
use Rattle.kinds.specs.Limits.{doubles}
use Rattle.kinds.specs.Heard.{nearest_heard}
use Rattle.kinds.specs.Outcome.{outcome}
use Rattle.kinds.proofs.OutcomeLaws.{determined}
use Rattle.arrays.specs.Codes.{Accepts, HeardWhen, Coded}
use Rattle.arrays.specs.CodesLaws.{answer_in}
use Rattle.arrays.proofs.CodesLaws.{heard_code, heard_zero, area_left, coded, values_call_left}
use Rattle.pairs.specs.Limits.{double_pairs}
use Rattle.pairs.specs.Pairs.{multiplied_of, weighted_of, paired_heard}
use Rattle.pairs.proofs.JudgedLaws.{pairs_some}
use Rattle.pairs.proofs.TableLaws.{multiplied_heard, multiplied_leaves, weighted_heard, paired_is}
use Rattle.pairs.specs.Paired.{Refused}
use Rattle.pair_calls.specs.PairArrays.{products_arrays, other_length, weighted_arrays}
use Rattle.pair_calls.proofs.PairArraysLaws.{weighted_other, weighted_called, other_nonzero}

module _ (ps qs out : List ℕ) where
  -- ---- exactly when
  pub products_code : (c : ℕ) → ((products_arrays ps qs out).answer ≡ c) ↔ HeardWhen (paired_heard (multiplied_of double_pairs ps qs out).answer) c
  products_code = heard_code (paired_heard (multiplied_of double_pairs ps qs out).answer)

  pub products_zero : ((products_arrays ps qs out).answer ≡ 0) ↔ Accepts (paired_heard (multiplied_of double_pairs ps qs out).answer)
  products_zero = heard_zero (paired_heard (multiplied_of double_pairs ps qs out).answer)
      (λ q e. pairs_some ((multiplied_heard double_pairs ps qs out 0 q).0 e).1 refl)

  pub weighted_coded : Coded 1 (length out) (other_length ps qs) (nearest_heard doubles (weighted_of double_pairs ps qs)) (weighted_arrays ps qs out).answer
  weighted_coded = coded 1 (length out) (other_length ps qs) (nearest_heard doubles (weighted_of double_pairs ps qs))
      (λ l. ap answer_in (weighted_called ps qs out l)) (λ l. ap answer_in (weighted_other ps qs out l))
      (λ p e. pairs_some ((weighted_heard double_pairs ps qs 0 p).0 e).1 refl) (other_nonzero ps qs)

  -- ---- determined
  pub products_determined : {r q : ℕ} {us vs : List ℕ} → outcome r us ≡ products_arrays ps qs out → outcome q vs ≡ products_arrays ps qs out
      → (r ≡ q) × (us ≡ vs)
  products_determined = determined (products_arrays ps qs out)

  pub weighted_determined : {r q : ℕ} {us vs : List ℕ} → outcome r us ≡ weighted_arrays ps qs out → outcome q vs ≡ weighted_arrays ps qs out
      → (r ≡ q) × (us ≡ vs)
  weighted_determined = determined (weighted_arrays ps qs out)

  -- ---- what a refusal leaves
  pub products_left : ((products_arrays ps qs out).answer ≡ 0 → ⊥) → (products_arrays ps qs out).area ≡ out
  products_left = area_left paired_heard Refused paired_is (multiplied_of double_pairs ps qs out) out (λ k i. multiplied_leaves double_pairs ps qs out)

  pub weighted_left : ((weighted_arrays ps qs out).answer ≡ 0 → ⊥) → (weighted_arrays ps qs out).area ≡ out
  unfolding weighted_arrays
  weighted_left = values_call_left (nearest_heard doubles (weighted_of double_pairs ps qs)) out (eqb (length out) 1) (other_length ps qs)
