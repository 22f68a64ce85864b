-- Exactly when each code of handing on is returned, and 0; any two results that meet the contract are equal, the code and the list; and another code than 0
-- leaves the lent list as it was. Assumes nothing.
use Rattle.std.specs.Prelude.{◌≡◌, refl, ◌↔◌, List, ℕ}
use Rattle.std.proofs.Common.{arith}
use Rattle.kinds.specs.Limits.{doubles}
use Rattle.kinds.specs.Outcome.{outcome}
use Rattle.kinds.proofs.OutcomeLaws.{determined}
use Rattle.weights.specs.Handed.{Refused}
use Rattle.weights.specs.Weights.{handed_of, handed_heard}
use Rattle.weights.specs.Table.{HandedWhen, too_many, wrong_length, bad_number, bad_weight_lem, other_total, no_place, nobody}
use Rattle.weights.proofs.TableLaws.{handed_heard_lem, handed_leaves, handed_is}
use Rattle.weights.proofs.FieldLaws.{fine_doubles}
use Rattle.arrays.specs.Codes.{Accepts, HeardWhen}
use Rattle.arrays.proofs.CodesLaws.{heard_code, heard_zero, area_left}
use Rattle.weight_calls.specs.WeightArrays.{hand_on_arrays}

-- no refusal has the number 0
some : {ps : List ℕ} {at : ℕ} {area : List ℕ} {k i : ℕ} → HandedWhen doubles ps at area (Refused k i) → k ≡ 0 → ⊥
some (too_many h) z = omega arith
some (wrong_length h a) z = omega arith
some (bad_number G k i B) z = B.bad z
some (bad_weight_lem G A i h b w) z = omega arith
some (other_total G w s) z = omega arith
some (no_place G L h) z = omega arith
some (nobody G L h o) z = omega arith

module _ (ps : List ℕ) (at : ℕ) (out : List ℕ) where
  -- ---- exactly when
  pub hand_on_code : (c : ℕ) → ((hand_on_arrays ps at out).answer ≡ c) ↔ HeardWhen (handed_heard (handed_of doubles ps at out).answer) c
  hand_on_code = heard_code (handed_heard (handed_of doubles ps at out).answer)

  pub hand_on_zero : ((hand_on_arrays ps at out).answer ≡ 0) ↔ Accepts (handed_heard (handed_of doubles ps at out).answer)
  hand_on_zero = heard_zero (handed_heard (handed_of doubles ps at out).answer) (λ q e. some ((handed_heard_lem doubles fine_doubles ps at out 0 q).0 e).1 refl)

  -- ---- determined
  pub hand_on_determined : {r q : ℕ} {us vs : List ℕ} → outcome r us ≡ hand_on_arrays ps at out → outcome q vs ≡ hand_on_arrays ps at out → (r ≡ q) × (us ≡ vs)
  hand_on_determined = determined (hand_on_arrays ps at out)

  -- ---- what a refusal leaves
  pub hand_on_left : ((hand_on_arrays ps at out).answer ≡ 0 → ⊥) → (hand_on_arrays ps at out).area ≡ out
  hand_on_left = area_left handed_heard Refused handed_is (handed_of doubles ps at out) out (λ k i. handed_leaves doubles fine_doubles ps at out)
