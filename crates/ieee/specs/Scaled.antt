-- What the theorems of proofs/Scaled.antt speak of. Definitions only.
use Rattle.std.specs.Prelude.{◌≡◌, ℕ, ◌^◌, Float}
use Rattle.std.specs.Float.{Format}
use Rattle.units.specs.Whole.{Whole, ◌⊗◌, Within}
use Rattle.ieee.specs.Units.{Number, whole}

-- ---- x is a number of the format, 2 ^ k times its units are z, and z is at most 2 ^ m
pub record Scaled (f : Format) (k m : ℕ) (z : Whole) (x : Float) : Type 0 where
  pub number : Number f x
  pub units : 2 ^ k ⊗ whole f x ≡ z
  pub small : Within z (2 ^ m)
