-- Rule K1, of the definitions' answers: any two that meet a public contract are equal, the answer and what every lent area holds afterwards. Each contract is
-- one equation with the answer on one side; Results says the same of what the code gives, and there the hypotheses are the contracts. Assumes nothing.
use Rattle.std.specs.Prelude.{◌≡◌, List, ℕ, Float}
use Rattle.kinds.specs.Limits.{doubles}
use Rattle.kinds.specs.Outcome.{outcome}
use Rattle.kinds.proofs.OutcomeLaws.{same, determined}
use Rattle.kinds.specs.State.{State}
use Rattle.kinds.specs.Step.{Step}
use Rattle.kinds.specs.Nearest.{Nearest}
use Rattle.kinds.specs.Parted.{Parted}
use Rattle.kinds.specs.Entry.{Entry}
use Rattle.sums.specs.Sums.{nearest_of, parts_of}
use Rattle.register.specs.Register.{added, withdrawn, rounded}
use Rattle.register.specs.Merge.{merged}
use Rattle.walk.specs.Walk.{opened, stepped, faithful_of}

-- ---- sums

pub nearest_determined : (ps : List ℕ) {r q : Nearest} → r ≡ nearest_of doubles ps → q ≡ nearest_of doubles ps → r ≡ q
nearest_determined ps = same

pub parts_determined : (ps : List ℕ) (area : List Float) {r q : Parted} {xs ys : List Float}
    → outcome r xs ≡ parts_of doubles ps area → outcome q ys ≡ parts_of doubles ps area → (r ≡ q) × (xs ≡ ys)
parts_determined ps area = determined (parts_of doubles ps area)

-- ---- register

pub add_determined : (ws : List ℕ) (p : ℕ) {r q : Entry} {xs ys : List ℕ} → outcome r xs ≡ added ws p → outcome q ys ≡ added ws p → (r ≡ q) × (xs ≡ ys)
add_determined ws p = determined (added ws p)

pub withdraw_determined : (ws : List ℕ) (p : ℕ) {r q : Entry} {xs ys : List ℕ}
    → outcome r xs ≡ withdrawn ws p → outcome q ys ≡ withdrawn ws p → (r ≡ q) × (xs ≡ ys)
withdraw_determined ws p = determined (withdrawn ws p)

pub round_determined : (ws : List ℕ) {r q : Nearest} → r ≡ rounded ws → q ≡ rounded ws → r ≡ q
round_determined ws = same

pub merge_determined : (us vs out : List ℕ) {r q : Entry} {xs ys : List ℕ}
    → outcome r xs ≡ merged us vs out → outcome q ys ≡ merged us vs out → (r ≡ q) × (xs ≡ ys)
merge_determined us vs out = determined (merged us vs out)

-- ---- walk

module _ (ps : List ℕ) (work : List Float) {r q : Step} {xs ys : List Float} where
  pub open_determined : (e : ℕ) → outcome r xs ≡ opened doubles e ps work → outcome q ys ≡ opened doubles e ps work → (r ≡ q) × (xs ≡ ys)
  open_determined e = determined (opened doubles e ps work)

  pub faithful_determined : outcome r xs ≡ faithful_of doubles ps work → outcome q ys ≡ faithful_of doubles ps work → (r ≡ q) × (xs ≡ ys)
  faithful_determined = determined (faithful_of doubles ps work)

pub step_determined : (s : State) (e b : ℕ) (work : List Float) {r q : Step} {xs ys : List Float}
    → outcome r xs ≡ stepped doubles s e b work → outcome q ys ≡ stepped doubles s e b work → (r ≡ q) × (xs ≡ ys)
step_determined s e b work = determined (stepped doubles s e b work)
