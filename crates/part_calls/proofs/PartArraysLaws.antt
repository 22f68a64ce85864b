-- The sum of a list in parts as a C call, case by case: another length of the array of values, and what the library's own call answers otherwise; and that
-- each of its refusals is one of the table. Assumes nothing.
use Rattle.std.specs.Prelude.{◌≡◌, List, ℕ, Float, length}
use Rattle.std.proofs.Common.{eq-eqb, ne_eqb}
use Rattle.kinds.specs.Limits.{doubles}
use Rattle.kinds.specs.Heard.{Refusal, parted_heard}
use Rattle.kinds.specs.Parted as parteds
use Rattle.judge.proofs.JudgeLaws.{list_refusal}
use Rattle.sums.specs.Sums.{parts_of}
use Rattle.demands.proofs.Refusals.{parts_refused}
use Rattle.arrays.specs.Arrays.{code_of, values_of, returned, too_many_or_4}
use Rattle.part_calls.specs.PartArrays.{parts_arrays}

module _ (ps : List ℕ) (area : List Float) (out : List ℕ) where
  pub parts_other : (length out ≡ 1 → ⊥) → parts_arrays ps area out ≡ returned (too_many_or_4 ps) area out
  unfolding parts_arrays
  parts_other h = rw (ne_eqb (length out) 1 h)

  pub parts_parted : length out ≡ 1
      → let s = parts_of doubles ps area in
      parts_arrays ps area out ≡ returned (code_of (parted_heard s.answer)) s.area (values_of (parted_heard s.answer) out)
  unfolding parts_arrays
  parts_parted h = rw (eq-eqb (length out) 1 h)

pub parts_refusal : (ps : List ℕ) (area : List Float) (k i : ℕ) → (parts_of doubles ps area).answer ≡ parteds.Refused k i → Refusal doubles.length k i
parts_refusal ps area k i e = list_refusal ((parts_refused ps area k i).0 e)
