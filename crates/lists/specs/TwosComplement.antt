-- What the theorems of proofs/TwosComplement.antt speak of. Definitions only.
use Rattle.std.specs.Prelude.{ℕ}
use Rattle.units.specs.Whole.{Whole, nat, ◌⊕◌, ◌⊗◌, ◌≈◌}

-- a is v but for a multiple of N
pub record Congruent (N : ℕ) (a : Whole) (v : ℕ) : Type 0 where
  pub times : Whole
  pub is : a ≈ nat v ⊕ N ⊗ times
