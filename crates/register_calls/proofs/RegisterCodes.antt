-- Exactly when each code of a call on a register's words is returned, and 0; any two results that meet a contract are equal, the code and every array; and
-- another code than 0 leaves every array as it was. Assumes nothing.
use Rattle.std.specs.Prelude.{◌≡◌, refl, ◌↔◌, List, ℕ, eqb, ℤ, length}
use Rattle.std.proofs.Common.{ap, arith}
use Rattle.kinds.specs.Limits.{doubles}
use Rattle.kinds.specs.Outcome.{outcome}
use Rattle.kinds.proofs.OutcomeLaws.{determined}
use Rattle.kinds.specs.Heard.{nearest_heard, entry_heard}
use Rattle.kinds.proofs.Hearing.{entry_is}
use Rattle.kinds.specs.Entry as entries
use Rattle.kinds.specs.Nearest as nearests
use Rattle.register.specs.Register.{added, withdrawn, rounded}
use Rattle.register.specs.Entries as entry-rows
use Rattle.register.specs.Entries.{EntryWhen}
use Rattle.register.specs.Merge as merge-rows
use Rattle.register.specs.Merge.{merged, MergeWhen}
use Rattle.demands.specs.Tables.{RoundWhen, wrong_words, beyond}
use Rattle.demands.proofs.Hearing.{add_heard, withdraw_heard, merge_heard, round_heard}
use Rattle.demands.proofs.Refusals as refusals
use Rattle.arrays.specs.Codes.{Accepts, HeardWhen, Coded}
use Rattle.arrays.specs.CodesLaws.{answer_in}
use Rattle.arrays.proofs.CodesLaws.{heard_code, heard_zero, coded, area_left, values_call_left}
use Rattle.register_calls.specs.RegisterArrays.{add_arrays, withdraw_arrays, merge_arrays, round_arrays}
use Rattle.register_calls.proofs.RegisterArraysLaws.{round_other, round_rounded}

-- ---- exactly when
entry_some : {ws : List ℕ} {p : ℕ} {n : ℤ} {k i : ℕ} → EntryWhen ws p n (entries.Refused k i) → k ≡ 0 → ⊥
entry_some (entry-rows.wrong_length l) z = omega arith
entry_some (entry-rows.bad_number l f) z = f z
entry_some (entry-rows.out_of_range l f s) z = omega arith

merge_some : {us vs out : List ℕ} {k i : ℕ} → MergeWhen us vs out (entries.Refused k i) → k ≡ 0 → ⊥
merge_some (merge-rows.wrong_length n) z = omega arith
merge_some (merge-rows.out_of_range T h) z = omega arith

round_some : {ws : List ℕ} {k i : ℕ} → RoundWhen ws (nearests.Refused k i) → k ≡ 0 → ⊥
round_some (wrong_words l) z = omega arith
round_some (beyond l h) z = omega arith

module _ (ws : List ℕ) (p : ℕ) where
  pub add_code : (c : ℕ) → ((add_arrays ws p).answer ≡ c) ↔ HeardWhen (entry_heard (added ws p).answer) c
  add_code = heard_code (entry_heard (added ws p).answer)

  pub add_zero : ((add_arrays ws p).answer ≡ 0) ↔ Accepts (entry_heard (added ws p).answer)
  add_zero = heard_zero (entry_heard (added ws p).answer) (λ q e. entry_some ((add_heard ws p 0 q).0 e).1 refl)

  pub withdraw_code : (c : ℕ) → ((withdraw_arrays ws p).answer ≡ c) ↔ HeardWhen (entry_heard (withdrawn ws p).answer) c
  withdraw_code = heard_code (entry_heard (withdrawn ws p).answer)

  pub withdraw_zero : ((withdraw_arrays ws p).answer ≡ 0) ↔ Accepts (entry_heard (withdrawn ws p).answer)
  withdraw_zero = heard_zero (entry_heard (withdrawn ws p).answer) (λ q e. entry_some ((withdraw_heard ws p 0 q).0 e).1 refl)

module _ (us vs out : List ℕ) where
  pub merge_code : (c : ℕ) → ((merge_arrays us vs out).answer ≡ c) ↔ HeardWhen (entry_heard (merged us vs out).answer) c
  merge_code = heard_code (entry_heard (merged us vs out).answer)

  pub merge_zero : ((merge_arrays us vs out).answer ≡ 0) ↔ Accepts (entry_heard (merged us vs out).answer)
  merge_zero = heard_zero (entry_heard (merged us vs out).answer) (λ q e. merge_some ((merge_heard us vs out 0 q).0 e).1 refl)

module _ (ws out : List ℕ) where
  pub round_coded : Coded 1 (length out) 4 (nearest_heard doubles (rounded ws)) (round_arrays ws out).answer
  round_coded = coded 1 (length out) 4 (nearest_heard doubles (rounded ws)) (λ l. ap answer_in (round_rounded ws out l))
      (λ l. ap answer_in (round_other ws out l))
      (λ p e. round_some ((round_heard ws 0 p).0 e).1 refl) (λ z. omega arith)

-- ---- determined
module _ {r q : ℕ} {us vs : List ℕ} where
  pub add_determined : (ws : List ℕ) (p : ℕ) → outcome r us ≡ add_arrays ws p → outcome q vs ≡ add_arrays ws p → (r ≡ q) × (us ≡ vs)
  add_determined ws p = determined (add_arrays ws p)

  pub withdraw_determined : (ws : List ℕ) (p : ℕ) → outcome r us ≡ withdraw_arrays ws p → outcome q vs ≡ withdraw_arrays ws p → (r ≡ q) × (us ≡ vs)
  withdraw_determined ws p = determined (withdraw_arrays ws p)

  pub merge_determined : (ws xs out : List ℕ) → outcome r us ≡ merge_arrays ws xs out → outcome q vs ≡ merge_arrays ws xs out → (r ≡ q) × (us ≡ vs)
  merge_determined ws xs out = determined (merge_arrays ws xs out)

  pub round_determined : (ws out : List ℕ) → outcome r us ≡ round_arrays ws out → outcome q vs ≡ round_arrays ws out → (r ≡ q) × (us ≡ vs)
  round_determined ws out = determined (round_arrays ws out)

-- ---- what a refusal leaves
module _ (ws : List ℕ) (p : ℕ) where
  pub add_left : ((add_arrays ws p).answer ≡ 0 → ⊥) → (add_arrays ws p).area ≡ ws
  add_left = area_left entry_heard entries.Refused entry_is (added ws p) ws (refusals.add_leaves ws p)

  pub withdraw_left : ((withdraw_arrays ws p).answer ≡ 0 → ⊥) → (withdraw_arrays ws p).area ≡ ws
  withdraw_left = area_left entry_heard entries.Refused entry_is (withdrawn ws p) ws (refusals.withdraw_leaves ws p)

pub merge_left : (us vs out : List ℕ) → ((merge_arrays us vs out).answer ≡ 0 → ⊥) → (merge_arrays us vs out).area ≡ out
merge_left us vs out = area_left entry_heard entries.Refused entry_is (merged us vs out) out (refusals.merge_leaves us vs out)

pub round_left : (ws values : List ℕ) → ((round_arrays ws values).answer ≡ 0 → ⊥) → (round_arrays ws values).area ≡ values
unfolding round_arrays
round_left ws values = values_call_left (nearest_heard doubles (rounded ws)) values (eqb (length values) 1) 4
