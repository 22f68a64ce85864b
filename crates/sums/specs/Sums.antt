-- The exact sum S of a list, the nearest sum and the sum in parts. Definitions only. They speak of the patterns alone, of neither words nor code.
use Rattle.std.specs.Prelude.{Bool, true, false, ◌&&◌, List, [], ◌∷◌, map, ℕ, zero, suc, ◌*◌, ◌<◌, leb, eqb, ℤ, ◌-ℤ◌, nat_abs, length, Float}
use Rattle.std.specs.Float.{Format}
use Rattle.std.specs.Float.Ieee.{of_bits}
use Rattle.units.specs.Whole.{exact_sum}
use Rattle.ieee.specs.Units.{value, nearest_float, limit}
use Rattle.kinds.specs.Limits.{Width}
use Rattle.kinds.specs.Outcome.{Outcome, outcome}
use Rattle.kinds.specs.Verdict.{Verdict}
use Rattle.kinds.specs.Verdict as verdicts
use Rattle.kinds.specs.Nearest.{Nearest}
use Rattle.kinds.specs.Nearest as nearests
use Rattle.kinds.specs.Parted.{Parted}
use Rattle.kinds.specs.Parted as parteds
use Rattle.judge.specs.Judge.{judged, zero_sign}
use Rattle.judge.specs.Table.{most}

-- rule L2: S
abbrev pub sum_of : Format → List ℕ → ℤ
sum_of f ps = exact_sum (map (λ (p : ℕ). value f (of_bits f p)) ps)

-- what a nearest sum and parts ask of a width: the sum of the longest list is below the format's limit
pub record Summing (W : Width) : Type 0 where
  pub room : W.length * most W < limit W.format

-- ---- rules S2 and S3
unfoldable pub nearest_after : Width → Verdict → List ℕ → Nearest
nearest_after W verdicts.Good ps = nearests.Sum (nearest_float W.format (zero_sign W ps) (sum_of W.format ps))
nearest_after W (verdicts.Refused k p) ps = nearests.Refused k p

abbrev pub nearest_of : Width → List ℕ → Nearest
nearest_of W ps = nearest_after W (judged W true true ps) ps

-- ---- rule S4; z is the sign of a zero first part
unfoldable pub parts : Format → ℕ → Bool → ℤ → List Float
parts f zero z S = []
parts f (suc k) z S = nearest_float f z S ∷ parts f k false (S -ℤ value f (nearest_float f z S))

-- rule S5
abbrev pub add_up : Format → List Float → ℤ → Bool
add_up f xs S = eqb (nat_abs (S -ℤ exact_sum (map (value f) xs))) 0

-- the answer, and the parts slice afterwards
unfoldable pub parts_after : Width → Verdict → List ℕ → List Float → Outcome Parted Float
parts_after W verdicts.Good ps area =
    let S = sum_of W.format ps in
    let xs = parts W.format (length area) (zero_sign W ps) S in
    outcome (parteds.Parts (add_up W.format xs S)) xs
parts_after W (verdicts.Refused k p) ps area = outcome (parteds.Refused k p) area

-- rules L10 and R5: the length that a parts slice may have
abbrev pub fitting : Width → List Float → Bool
fitting W area = leb 1 (length area) && leb (length area) W.parts

abbrev pub parts_of : Width → List ℕ → List Float → Outcome Parted Float
parts_of W ps area = parts_after W (judged W true (fitting W area) ps) ps area
