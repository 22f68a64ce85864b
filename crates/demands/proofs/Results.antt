-- Rule K1 for what the calls at binary64 give: any two results that meet a contract are equal, and what every lent area holds afterwards. Assumes nothing.
use Rattle.std.specs.Prelude.{◌≡◌, List, ℕ, Bool, Float, ⊤, Result}
use Rattle.kinds.specs.Limits.{doubles}
use Rattle.kinds.specs.Outcome.{outcome}
use Rattle.kinds.proofs.OutcomeLaws.{same, determined}
use Rattle.kinds.specs.declared.refusal.Refusal.{Refusal}
use Rattle.kinds.specs.declared.state.State.{State}
use Rattle.kinds.specs.declared.state.Step.{Step}
use Rattle.kinds.specs.Answers.{itself, as_state, as_step, as_nearest, as_parted, as_entry}
use Rattle.kinds.proofs.AnswersLaws.{step_same, nearest_same, parted_same, entry_same}
use Rattle.sums.specs.Sums.{nearest_of, parts_of}
use Rattle.register.specs.Register.{added, withdrawn, rounded}
use Rattle.register.specs.Merge.{merged}
use Rattle.walk.specs.Walk.{opened, stepped, faithful_of}
use Rattle.walk.specs.declared.sum.Sum.{Sum}
use Rattle.walk.specs.Sums.{as_faithful}
use Rattle.walk.proofs.SumsLaws.{faithful_same}

-- ---- sums

pub nearest_results : (ps : List ℕ) {r q : Result Float Refusal} → as_nearest itself r ≡ nearest_of doubles ps
    → as_nearest itself q ≡ nearest_of doubles ps → r ≡ q
nearest_results ps {r} {q} e f = nearest_same r q (same e f)

pub parts_results : (ps : List ℕ) (area : List Float) {r q : Result Bool Refusal} {xs ys : List Float}
    → outcome (as_parted r) xs ≡ parts_of doubles ps area → outcome (as_parted q) ys ≡ parts_of doubles ps area → (r ≡ q) × (xs ≡ ys)
parts_results ps area {r} {q} e f = let d = determined (parts_of doubles ps area) e f in (parted_same r q d.0, d.1)

-- ---- register

module _ {r q : Result ⊤ Refusal} {xs ys : List ℕ} where
  pub add_results : (ws : List ℕ) (p : ℕ) → outcome (as_entry r) xs ≡ added ws p → outcome (as_entry q) ys ≡ added ws p → (r ≡ q) × (xs ≡ ys)
  add_results ws p e f = let d = determined (added ws p) e f in (entry_same r q d.0, d.1)

  pub withdraw_results : (ws : List ℕ) (p : ℕ) → outcome (as_entry r) xs ≡ withdrawn ws p → outcome (as_entry q) ys ≡ withdrawn ws p → (r ≡ q) × (xs ≡ ys)
  withdraw_results ws p e f = let d = determined (withdrawn ws p) e f in (entry_same r q d.0, d.1)

  pub merge_results : (us vs out : List ℕ) → outcome (as_entry r) xs ≡ merged us vs out → outcome (as_entry q) ys ≡ merged us vs out → (r ≡ q) × (xs ≡ ys)
  merge_results us vs out e f = let d = determined (merged us vs out) e f in (entry_same r q d.0, d.1)

pub round_results : (ws : List ℕ) {r q : Result Float Refusal} → as_nearest itself r ≡ rounded ws → as_nearest itself q ≡ rounded ws → r ≡ q
round_results ws {r} {q} e f = nearest_same r q (same e f)

-- ---- walk

module _ (ps : List ℕ) (work : List Float) {r q : Result (Step Float) Refusal} {xs ys : List Float} where
  pub open_results : (e : ℕ) → outcome (as_step itself r) xs ≡ opened doubles e ps work → outcome (as_step itself q) ys ≡ opened doubles e ps work
      → (r ≡ q) × (xs ≡ ys)
  open_results e h k = let d = determined (opened doubles e ps work) h k in (step_same r q d.0, d.1)

-- the undivided call gives a sum
pub faithful_results : (ps : List ℕ) (work : List Float) {r q : Result (Sum Float) Refusal} {xs ys : List Float}
    → outcome (as_faithful itself r) xs ≡ faithful_of doubles ps work → outcome (as_faithful itself q) ys ≡ faithful_of doubles ps work
    → (r ≡ q) × (xs ≡ ys)
faithful_results ps work {r} {q} h k = let d = determined (faithful_of doubles ps work) h k in (faithful_same r q d.0, d.1)

pub step_results : (s : State Float) (e b : ℕ) (work : List Float) {r q : Result (Step Float) Refusal} {xs ys : List Float}
    → outcome (as_step itself r) xs ≡ stepped doubles (as_state itself s) e b work
    → outcome (as_step itself q) ys ≡ stepped doubles (as_state itself s) e b work
    → (r ≡ q) × (xs ≡ ys)
step_results s e b work {r} {q} h k = let d = determined (stepped doubles (as_state itself s) e b work) h k in (step_same r q d.0, d.1)
