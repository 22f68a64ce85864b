-- What the theorems of proofs/WeightLaws.antt speak of. Definitions only.
use Rattle.std.specs.Prelude.{ℕ, ◌+◌, ◌-◌, ◌≤◌}
use Rattle.std.specs.Float.{Format}
use Rattle.std.specs.Float.Ieee.{prec, low}
use Rattle.kinds.specs.Limits.{Width}
use Rattle.judge.specs.Table.{most}
use Rattle.weights.specs.Weights.{whole_weight}

-- the format has the digits of a weight, its exponents reach down to a grain, and 1 is allowed
pub record Fine (W : Width) : Type 0 where
  pub digits : 31 ≤ prec W.format
  pub deep : prec W.format + 30 ≤ low W.format
  pub enough : whole_weight W.format ≤ most W

-- the exponent's field of a grain
abbrev pub field_of_grain : Format → ℕ
field_of_grain f = low f - 30 - (prec f - 1) + 1
