-- The sums of a list as C calls, case by case: another length of the array of values, and what the library's own call answers otherwise; and that each of its
-- refusals is one of the table. Assumes nothing.
use Rattle.std.specs.Prelude.{◌≡◌, List, ℕ, ◌≤◌, Float, length}
use Rattle.std.proofs.Common.{eq-eqb, ne_eqb}
use Rattle.kinds.specs.Limits.{Width, doubles}
use Rattle.kinds.specs.Outcome.{outcome}
use Rattle.kinds.specs.Heard.{step_heard, nearest_heard}
use Rattle.walk.specs.Walk.{faithful_of}
use Rattle.sums.specs.Sums.{nearest_of}
use Rattle.sums.proofs.AnswerNumbers as lists
use Rattle.arrays.specs.Arrays.{code_of, values_of, returned, too_many_of}
use Rattle.arrays.proofs.ArraysLaws.{nearest_by}
use Rattle.arrays.specs.Inner.{NearestRefusal}
use Rattle.sum_calls.specs.SumArrays.{faithful_with, nearest_with}

module _ (W : Width) (ps : List ℕ) (work : List Float) (out : List ℕ) where
  pub faithful_other : (length out ≡ 2 → ⊥) → faithful_with W ps work out ≡ returned (too_many_of W ps) work out
  unfolding faithful_with
  faithful_other h = rw (ne_eqb (length out) 2 h)

  pub faithful_walked : length out ≡ 2
      → let w = faithful_of W ps work in
      faithful_with W ps work out ≡ returned (code_of (step_heard W w.answer)) w.area (values_of (step_heard W w.answer) out)
  unfolding faithful_with
  faithful_walked h = rw (eq-eqb (length out) 2 h)

module _ (W : Width) (ps out : List ℕ) where
  pub nearest_other : (length out ≡ 1 → ⊥) → nearest_with W ps out ≡ outcome (too_many_of W ps) out
  unfolding nearest_with
  nearest_other h = rw (ne_eqb (length out) 1 h)

  pub nearest_summed : length out ≡ 1
      → let h = nearest_heard W (nearest_of W ps) in
      nearest_with W ps out ≡ outcome (code_of h) (values_of h out)
  unfolding nearest_with
  nearest_summed h = rw (eq-eqb (length out) 1 h)

-- ---- what is refused is refused with a number of the table
pub nearest_refusal : (W : Width) → W.length ≤ doubles.length → (ps : List ℕ) → NearestRefusal (nearest_of W ps)
nearest_refusal W l ps = nearest_by W l (nearest_of W ps) (lists.nearest_refusal W ps)
