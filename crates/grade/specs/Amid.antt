-- What the theorems of proofs/Amid.antt speak of. Definitions only.
use Rattle.std.specs.Prelude.{ℤ, Float}
use Rattle.std.specs.Float.{Format}
use Rattle.units.specs.Whole.{◌≺◌, difference}
use Rattle.ieee.specs.Units.{Number, whole}

pub record Amid (f : Format) (S : ℤ) (lower upper : Float) : Type 0 where
  pub lower_number : Number f lower
  pub upper_number : Number f upper
  pub under : whole f lower ≺ difference S
  pub over : difference S ≺ whole f upper
  pub none : (y : Float) → Number f y → whole f lower ≺ whole f y → whole f y ≺ whole f upper → ⊥
