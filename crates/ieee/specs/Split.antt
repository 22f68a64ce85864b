-- What the theorems of proofs/Split.antt speak of. Definitions only.
use Rattle.std.specs.Prelude.{ℕ, Float}
use Rattle.std.specs.Float.{Format}
use Rattle.std.specs.Float.Ieee.{prec}
use Rattle.units.specs.Rounding.{dropped}
use Rattle.ieee.specs.Units.{magnitude}

-- ---- the last place of a number, and that a factor has all its digits
abbrev pub last_place : Format → Float → ℕ
last_place f a = dropped (prec f) (magnitude f a)
