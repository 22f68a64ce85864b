-- What the theorems of proofs/CloseUnits.antt speak of. Definitions only.
use Rattle.std.specs.Prelude.{ℕ, ◌^◌, Float}
use Rattle.std.specs.Float.{Format}
use Rattle.units.specs.Whole.{Within}
use Rattle.units.specs.Walk as units
use Rattle.ieee.specs.Units.{Number, whole}

-- ---- a sum and a difference of numbers of at most 2^k units, with room for one digit more
pub record Held (f : Format) (k : ℕ) (x : Float) : Type 0 where
  pub number : Number f x
  pub within : Within (whole f x) (2 ^ k)
