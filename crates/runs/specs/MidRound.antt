-- What the theorems of proofs/MidRound.antt speak of. Definitions only.
use Rattle.std.specs.Prelude.{ℕ, Float}
use Rattle.std.specs.Float.{Format}
use Rattle.std.specs.Float.Ieee.{prec}
use Rattle.units.specs.Whole.{Whole}
use Rattle.units.specs.Walk as units
use Rattle.ieee.specs.Units.{whole}

-- the high part of a float, in units
abbrev pub high_units : Format → ℕ → Float → Whole
high_units f k x = units.high (prec f) k (whole f x)
