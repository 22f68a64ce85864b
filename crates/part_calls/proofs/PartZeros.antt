-- Rule S3 of the sum in parts, from C: where the exact sum is zero the first part is the zero that the list asks for, the others are +0, and they add up.
-- Assumes nothing.
use Rattle.std.specs.Prelude.{◌≡◌, true, List, [], ◌∷◌, map, ℕ, ◌-◌, pos, length, replicate, Float}
use Rattle.std.proofs.Common.{ap, ◌∙◌}
use Rattle.std.specs.Float.Ieee.{to_bits}
use Rattle.kinds.specs.Limits.{doubles}
use Rattle.kinds.specs.Heard.{parted_heard}
use Rattle.kinds.specs.Parted.{Parted}
use Rattle.kinds.specs.Verdict.{Good}
use Rattle.judge.specs.Table.{ListWhen, ZeroWhen}
use Rattle.sums.specs.Sums.{sum_of, fitting, parts_of}
use Rattle.sums.proofs.SumLaws.{sums_doubles}
use Rattle.sums.proofs.ZeroSums as sums
use Rattle.arrays.specs.Arrays.{code_of, values_of, Returned, returned}
use Rattle.part_calls.specs.PartArrays.{parts_arrays}
use Rattle.part_calls.proofs.PartArraysLaws.{parts_parted}

module _ (ps : List ℕ) (area : List Float) (out : List ℕ) (s : sum_of doubles.format ps ≡ pos 0)
    (G : ListWhen doubles true (fitting doubles area) ps Good) (l : length out ≡ 1) {p : ℕ} (Z : ZeroWhen doubles ps p) where
  returns : parts_arrays ps area out ≡ returned 0 (parts_of doubles ps area).area (1 ∷ [])
  returns =
      parts_parted ps area out l
      ∙ ap (λ (a : Parted). returned (code_of (parted_heard a)) (parts_of doubles ps area).area (values_of (parted_heard a) out))
      (sums.parts_zero sums_doubles ps s area G Z).0

  pub parts_zero : ((parts_arrays ps area out).code ≡ 0) × ((parts_arrays ps area out).values ≡ 1 ∷ [])
      × (map (to_bits doubles.format) (parts_arrays ps area out).area ≡ p ∷ replicate (length area - 1) 0)
  parts_zero = (
    ap (λ (r : Returned Float). r.code) returns,
    ap (λ (r : Returned Float). r.values) returns,
    ap (λ (r : Returned Float). map (to_bits doubles.format) r.area) returns ∙ (sums.parts_zero sums_doubles ps s area G Z).1,
  )
