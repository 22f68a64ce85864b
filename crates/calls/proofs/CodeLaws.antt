-- Any two results that meet a C call's contract are equal; a refused call leaves the lent bytes; and a code tells its refusal. Assumes nothing.
use Rattle.std.specs.Prelude.{◌≡◌, refl, Bool, true, false, cond, List, [], ℕ, ◌+◌, ◌/◌, ◌%◌, ◌<◌, eqb, length}
use Rattle.std.proofs.Common.{arith}
use Rattle.kinds.specs.Outcome.{outcome}
use Rattle.kinds.proofs.OutcomeLaws.{determined}
use Rattle.kinds.specs.Heard.{Place, nowhere, at, Heard, refused, more, done, nearest, parts, accepted, count, rescued}
use Rattle.register.specs.Register.{Changed}
use Rattle.calls.specs.Calls.{Called, place_code, answered, length_fault, patterns_in, summed, sum_call, registered, register_call, register_bytes}

-- ---- any two results that meet a contract are equal
pub call_determined : {r q : ℕ} {xs ys : List ℕ} (c : Called) → outcome r xs ≡ c → outcome q ys ≡ c → (r ≡ q) × (xs ≡ ys)
call_determined c p q = determined c p q

-- ---- rule A1
answer_leaves : (h : Heard) (before words : List ℕ) → ((answered h before words).answer ≡ 0 → ⊥) → (answered h before words).area ≡ before
unfolding answered
answer_leaves (refused k p) before words n = refl
answer_leaves (done x r) before words n = absurd (n refl)
answer_leaves (nearest x) before words n = absurd (n refl)
answer_leaves accepted before words n = absurd (n refl)
answer_leaves (more a b c d e f g h i) before words n = absurd (n refl)
answer_leaves (parts b) before words n = absurd (n refl)
answer_leaves (count m) before words n = absurd (n refl)
answer_leaves (rescued w t m o) before words n = absurd (n refl)

-- a call is what it answers, or a refusal of its lengths
either_leaves : (b : Bool) (c : Called) (k : ℕ) (before : List ℕ) → ((c.answer ≡ 0 → ⊥) → c.area ≡ before)
    → ((cond b c (outcome k before)).answer ≡ 0 → ⊥) → (cond b c (outcome k before)).area ≡ before
either_leaves true c k before h n = h n
either_leaves false c k before h n = refl

pub sum_leaves : (heardOf : List ℕ → Heard) (list out : List ℕ) → ((sum_call heardOf list out).answer ≡ 0 → ⊥) → (sum_call heardOf list out).area ≡ out
unfolding sum_call
sum_leaves heardOf list out =
    let f = length_fault (length list) (length out) in
    either_leaves (eqb f 0) (summed heardOf list out) f out (answer_leaves (heardOf (patterns_in list)) out [])

pub register_leaves : (entered_in : List ℕ → Changed) (register : List ℕ) → ((register_call entered_in register).answer ≡ 0 → ⊥)
    → (register_call entered_in register).area ≡ register
unfolding register_call
register_leaves entered_in register = either_leaves (eqb (length register) register_bytes) (registered entered_in register) 4 register
    (answer_leaves _ register _)

-- ---- a code tells the number of its refusal, and the place where one is told
pub code_number : (k : ℕ) (p : Place) → k < 32 → (k + place_code p) % 32 ≡ k
code_number k nowhere h = omega arith
code_number k (at i) h = omega arith

pub code_place : (k i : ℕ) → k < 32 → (k + place_code (at i)) / 32 ≡ i + 1
code_place k i h = omega arith

pub code_nowhere : (k : ℕ) → k < 32 → (k + place_code nowhere) / 32 ≡ 0
code_nowhere k h = omega arith
