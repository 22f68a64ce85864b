-- What the theorems of proofs/SideLaws.antt speak of. Definitions only.
use Rattle.std.specs.Prelude.{◌≡◌, ◌⊎◌, ◌+◌, ◌-◌, ◌*◌, ◌≤◌, ◌<◌, ℤ, Float}
use Rattle.std.proofs.Math.IntN.{nat_abs}
use Rattle.std.specs.Float.{Format}
use Rattle.std.specs.Float.Ieee.{hid, ones, of_bits, to_bits}
use Rattle.ieee.specs.Units.{magnitude, limit, pattern_units}
use Rattle.grade.specs.Grade.{near, other_side}
use Rattle.grade.specs.Amid.{Amid}

-- S is not beyond the largest number of the format, whose pattern is the last below the infinity's
pub record Inside (f : Format) (S : ℤ) : Type 0 where
  pub below : nat_abs S < limit f
  pub largest : nat_abs S ≤ pattern_units f (ones f * hid f - 1)

-- the number on the other side of S
abbrev pub far : Format → ℤ → Float
far f S = of_bits f (other_side f S)

-- what is between the nearest and the other, whichever is above
pub data Sides (f : Format) (S : ℤ) : Type 0 where
  near_below : Amid f S (near f S) (far f S) → Sides f S
  far_below : Amid f S (far f S) (near f S) → Sides f S

-- the other side: a number next to the nearest, of its sign, and not zero
pub record Beside (f : Format) (S : ℤ) : Type 0 where
  pub sides : Sides f S
  pub bits : to_bits f (far f S) ≡ other_side f S
  pub step : (to_bits f (far f S) ≡ to_bits f (near f S) + 1) ⊎ (to_bits f (near f S) ≡ to_bits f (far f S) + 1)
  pub near_some : 0 < magnitude f (near f S)
  pub far_some : 0 < magnitude f (far f S)
