-- What the theorems of proofs/LargestWithLaws.antt speak of. Definitions only.
use Rattle.std.specs.Prelude.{ℕ, ◌<◌}
use Rattle.std.specs.Float.{Format}
use Rattle.std.specs.Float.Ieee.{prec}
use Rattle.std.specs.Float.Ieee.Scale.{overflow}
use Rattle.units.specs.Rounding.{Short}

-- a float of n units exists
pub record Sized (f : Format) (n : ℕ) : Type 0 where
  pub short : Short (prec f) n
  pub below : n < overflow f
