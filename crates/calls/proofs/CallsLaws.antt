-- The calls on bytes case by case: the lengths, what is heard as a code and bytes, and the faithful sum's own areas. Assumes nothing.
use Rattle.std.specs.Prelude.{◌≡◌, Bool, true, false, cond, not, List, [], ◌∷◌, ℕ, zero, suc, ◌+◌, ◌*◌, ◌/◌, ◌%◌, ◌≤◌, ◌<◌, ltb, eqb, Float, length, take}
use Rattle.std.specs.Prelude.{replicate}
use Rattle.std.proofs.Math.Path.{refl}
use Rattle.std.proofs.Common.{ap, ◌∙◌, arith, lt-ltb, le-ltb, eq-eqb, ne_eqb, eqb→eq, nltb→le, length-take-le}
use Rattle.std.specs.Float.Ieee.{of_bits}
use Rattle.std.proofs.lemmas.List.{length-replicate}
use Rattle.kinds.specs.Limits.{doubles}
use Rattle.kinds.specs.Outcome.{outcome}
use Rattle.kinds.specs.Heard.{Refusal, Heard, refused, done, nearest, accepted, tells, place_of, step_heard}
use Rattle.register.specs.Register.{Changed}
use Rattle.octets.specs.Octets.{little, packed, unpacked}
use Rattle.octets.proofs.EightsLaws.{eights_length}
use Rattle.walk.specs.Walk.{faithful_of}
use Rattle.calls.specs.Calls.{place_code, answered, length_fault, summed, sum_call, own, faithful_heard, sum_heard, list_bytes, sum_bytes, register_bytes}
use Rattle.calls.specs.Calls.{registered, register_call}
use Rattle.calls.specs.Inner.{Listed}

-- ---- the lengths
module _ (list out : ℕ) where
  pub fault_1 : list_bytes < list → length_fault list out ≡ 1
  fault_1 h = rw (lt-ltb list_bytes list h)

  pub fault_list : list ≤ list_bytes → (list % 8 ≡ 0 → ⊥) → length_fault list out ≡ 4
  fault_list h m = rw (le-ltb list_bytes list h, ne_eqb (list % 8) 0 m)

  pub fault_out : list ≤ list_bytes → list % 8 ≡ 0 → (out ≡ sum_bytes → ⊥) → length_fault list out ≡ 4
  fault_out h m o = rw (le-ltb list_bytes list h, eq-eqb (list % 8) 0 m, ne_eqb out sum_bytes o)

  pub fault_0 : list ≤ list_bytes → list % 8 ≡ 0 → out ≡ sum_bytes → length_fault list out ≡ 0
  fault_0 h m o = rw (le-ltb list_bytes list h, eq-eqb (list % 8) 0 m, eq-eqb out sum_bytes o)

module _ (list out : ℕ) (e : length_fault list out ≡ 0) where
  passed : (a b c : Bool) → ◌≡◌ {A = ℕ} (cond a 1 (cond (not b) 4 (cond (not c) 4 0))) 0 → (a ≡ false) × (b ≡ true) × (c ≡ true)
  passed true b c e = absurd (omega arith)
  passed false true true e = (refl, refl, refl)
  passed false true false e = absurd (omega arith)
  passed false false c e = absurd (omega arith)

  tests : (ltb list_bytes list ≡ false) × (eqb (list % 8) 0 ≡ true) × (eqb out sum_bytes ≡ true)
  tests = passed (ltb list_bytes list) (eqb (list % 8) 0) (eqb out sum_bytes) e

  pub fitting : Listed doubles.length list
  fitting =
      let m : list % 8 ≡ 0 = eqb→eq (list % 8) 0 (rw tests.1 tt) in
      let l : list ≤ list_bytes = nltb→le list_bytes list (rw tests.0 tt) in
      record { whole = omega arith; few = omega arith }

  pub sixteen : out ≡ sum_bytes
  sixteen = eqb→eq out sum_bytes (rw tests.2 tt)

-- ---- the calls
module _ (heardOf : List ℕ → Heard) (list out : List ℕ) where
  pub sum_refused : (length_fault (length list) (length out) ≡ 0 → ⊥) → sum_call heardOf list out ≡ outcome (length_fault (length list) (length out)) out
  unfolding sum_call
  sum_refused h = rw (ne_eqb (length_fault (length list) (length out)) 0 h)

  pub sum_summed : length_fault (length list) (length out) ≡ 0 → sum_call heardOf list out ≡ summed heardOf list out
  unfolding sum_call
  sum_summed h = rw (eq-eqb (length_fault (length list) (length out)) 0 h)

module _ (entered_in : List ℕ → Changed) (register : List ℕ) where
  pub register_refused : (length register ≡ register_bytes → ⊥) → register_call entered_in register ≡ outcome 4 register
  unfolding register_call
  register_refused h = rw (ne_eqb (length register) register_bytes h)

  pub register_registered : length register ≡ register_bytes → register_call entered_in register ≡ registered entered_in register
  unfolding register_call
  register_registered h = rw (eq-eqb (length register) register_bytes h)

-- ---- what is heard
module _ (before words : List ℕ) where
  pub answered_refused : (k i : ℕ) → answered (refused k (place_of k i)) before words ≡ outcome (k + place_code (place_of k i)) before
  unfolding answered
  answered_refused k i = refl

  pub answered_done : (x rounds : ℕ) → answered (done x rounds) before words ≡ outcome 0 (packed (x ∷ rounds ∷ []))
  unfolding answered
  answered_done x rounds = refl

  pub answered_nearest : (x : ℕ) → answered (nearest x) before words ≡ outcome 0 (packed (x ∷ 0 ∷ []))
  unfolding answered
  answered_nearest x = refl

  pub answered_accepted : answered accepted before words ≡ outcome 0 (packed words)
  unfolding answered
  answered_accepted = refl

-- ---- the numbers and the work area of a sum
pub faithful_within_lem : (list numbers out : List ℕ) (work : List Float) (n : ℕ) → length list ≡ 8 * n → numbers ≡ unpacked n list → work ≡ own n
    → answered (step_heard doubles (faithful_of doubles numbers work).answer) out [] ≡ summed faithful_heard list out
faithful_within_lem list numbers out work n l e w =
    let d : length list / 8 ≡ n = omega arith in
    rw (d, e, w, eights_length little n list)

pub nearest_within : (list numbers out : List ℕ) (n : ℕ) → length list ≡ 8 * n → numbers ≡ unpacked n list
    → answered (sum_heard numbers) out [] ≡ summed sum_heard list out
nearest_within list numbers out n l e =
    let d : length list / 8 ≡ n = omega arith in
    rw (d, e)

own_front : (n k : ℕ) → n ≤ k → take n (own k) ≡ own n
own_front zero k h = refl
own_front (suc n) zero h = absurd (omega arith)
own_front (suc n) (suc k) h = ap (λ (xs : List Float). of_bits doubles.format 0 ∷ xs) (own_front n k (omega arith))

-- the first places of areas that hold the list, of any length: so many, for the numbers and for the walk's own work
module _ {most bytes : ℕ} (F : Listed most bytes) where
  pub front_length : {A : Type 0} (x : A) → length (take (bytes / 8) (replicate most x)) ≡ bytes / 8
  front_length x = length-take-le (bytes / 8) (replicate most x) (rw (length-replicate most) F.few)

  pub front_bytes : bytes ≡ 8 * length (take (bytes / 8) (replicate {A = ℕ} most 0))
  front_bytes = F.whole ∙ rw (front_length {A = ℕ} 0)

  pub front_own : take (bytes / 8) (own most) ≡ own (length (take (bytes / 8) (replicate {A = ℕ} most 0)))
  front_own = own_front (bytes / 8) most F.few ∙ rw (front_length {A = ℕ} 0)

-- ---- the code of a refusal
module _ {k i : ℕ} (R : Refusal doubles.length k i) where
  pub code_told : tells k ≡ true → place_code (place_of k i) ≡ 32 * (i + 1)
  code_told t = ap place_code R.as_told ∙ rw t

  pub code_silent : tells k ≡ false → place_code (place_of k i) ≡ 0
  code_silent t = ap place_code R.as_told ∙ rw t
