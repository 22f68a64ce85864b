-- The code of a C sum: each is returned exactly when its row says. Assumes nothing.
use Rattle.std.specs.Prelude.{◌≡◌, ◌↔◌, List, ℕ, ◌+◌, ◌*◌, ◌%◌, ◌≤◌, length}
use Rattle.std.proofs.Common.{sym, ap, ◌∙◌, inl, inr, arith}
use Rattle.std.proofs.Math.Decide.{ℕ_discrete}
use Rattle.units.proofs.Powers.{le_or_lt}
use Rattle.kinds.proofs.Hearing.{exactly}
use Rattle.kinds.specs.Heard.{Heard}
use Rattle.kinds.specs.Limits.{doubles}
use Rattle.kinds.specs.Outcome.{outcome}
use Rattle.judge.specs.Table.{First}
use Rattle.judge.proofs.FirstFaultLaws.{found}
use Rattle.calls.specs.Calls.{Called, length_fault, patterns_in, sum_call, faithful_heard, sum_heard, faithful_call, nearest_call}
use Rattle.calls.proofs.CallsLaws.{fault_1, fault_list, fault_out, sum_refused}
use Rattle.byte_calls.specs.SumBytes.{RightBytes, SumCode, too_long, not_whole, wrong_out, bad_number, summed}
use Rattle.byte_calls.proofs.Promised.{faithful_code, nearest_code, faithful_when, nearest_when}

module _ (heardOf : List ℕ → Heard) (list out : List ℕ)
    (codes : length list ≤ 32752 → length list % 8 ≡ 0 → length out ≡ 16 → (k i : ℕ) → First doubles (patterns_in list) k i
    → sum_call heardOf list out ≡ outcome (k + 32 * (i + 1)) out)
    (sums : RightBytes list out → (sum_call heardOf list out).answer ≡ 0) where
  -- a length at fault is the code
  fault : (k : ℕ) → length_fault (length list) (length out) ≡ k → (k ≡ 0 → ⊥) → (sum_call heardOf list out).answer ≡ k
  fault k e n = ap (λ (x : Called). x.answer) (sum_refused heardOf list out (λ z. n (sym e ∙ z))) ∙ e

  row : {c : ℕ} → SumCode list out c → (sum_call heardOf list out).answer ≡ c
  row (too_long h) = fault 1 (fault_1 (length list) (length out) h) (omega arith)
  row (not_whole h m) = fault 4 (fault_list (length list) (length out) h m) (omega arith)
  row (wrong_out h m o) = fault 4 (fault_out (length list) (length out) h m o) (omega arith)
  row (bad_number h m o k i F) = ap (λ (x : Called). x.answer) (codes h m o k i F)
  row (summed R) = sums R

  some_row : (c : ℕ) × SumCode list out c
  some_row = elim (le_or_lt (length list) 32752) [
    | inr h ↦ (_, too_long h)
    | inl h ↦ elim (ℕ_discrete (length list % 8) 0) [
      | no m ↦ (_, not_whole h m)
      | yes m ↦ elim (ℕ_discrete (length out) 16) [
        | no o ↦ (_, wrong_out h m o)
        | yes o ↦ elim (found doubles (patterns_in list)) [
          | inl A ↦ (_, summed (record { bytes = h; whole = m; sixteen = o; allowed = A }))
          | inr F ↦ (_, bad_number h m o F.0 F.1 F.2)
        ]
      ]
    ]
  ]

  code_when : (c : ℕ) → ((sum_call heardOf list out).answer ≡ c) ↔ SumCode list out c
  code_when = exactly (sum_call heardOf list out).answer (SumCode list out) (λ c. row) some_row

pub faithful_code_when : (list out : List ℕ) (c : ℕ) → ((faithful_call list out).answer ≡ c) ↔ SumCode list out c
faithful_code_when list out = code_when faithful_heard list out (λ h m o k i F. faithful_code list out h m o k i F) (faithful_when list out).1

pub nearest_code_when : (list out : List ℕ) (c : ℕ) → ((nearest_call list out).answer ≡ c) ↔ SumCode list out c
nearest_code_when list out = code_when sum_heard list out (λ h m o k i F. nearest_code list out h m o k i F) (nearest_when list out).1
