-- What the theorems of proofs/PlacesLaws.antt speak of. Definitions only.
use Rattle.std.specs.Prelude.{◌≡◌, ℕ, ◌+◌, ◌≤◌, length, drop, Float}
use mathlib.Core.List.{List}
use Rattle.kinds.specs.Limits.{Width}
use Rattle.sound.specs.Places.{first_above}

-- ---- no place before i is above the limit
pub record NoneBefore (W : Width) (most : ℕ) (xs : List Float) (i : ℕ) : Type 0 where
  pub within : i ≤ length xs
  pub rest : first_above W most xs ≡ first_above W most (drop i xs) + i
