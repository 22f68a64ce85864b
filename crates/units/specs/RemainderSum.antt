-- What the theorems of proofs/RemainderSum.antt speak of. Definitions only.
use Rattle.std.specs.Prelude.{ℕ, ◌*◌, ◌^◌}
use Rattle.units.specs.Whole.{Whole, ◌⊖◌, ◌⊗◌, Within}

-- T is the rounded sum and D the exact one, of c numbers of magnitude at most g
pub record Summed (p c g : ℕ) (T D : Whole) : Type 0 where
  pub small : Within T (c * g)
  pub off : Within (2 ^ p ⊗ (T ⊖ D)) (c * c * g)
