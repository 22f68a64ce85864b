-- What the theorems of proofs/LimitLaws.antt speak of. Definitions only.
use Rattle.std.specs.Prelude.{◌≡◌, false, not, ℕ, T}
use Rattle.std.specs.Float.{Format}
use Rattle.std.specs.Float.Ieee.{of_bits, nan_bits}
use Rattle.ieee.specs.Units.{Number, negative}

-- a pattern below the infinity's is no NaN's, and stands for a number that isn't negative
pub record Limit (f : Format) (p : ℕ) : Type 0 where
  pub no_nan : T (not (nan_bits f p))
  pub number : Number f (of_bits f p)
  pub positive : negative (of_bits f p) ≡ false
