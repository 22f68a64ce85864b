-- A number that is a multiple of all that two numbers of p bits are multiples of, and no larger than either. Assumes nothing.
use Rattle.std.proofs.Common.{inl, inr, le_of_lt, arith}
use Rattle.std.specs.Prelude.{ℕ}
use Rattle.units.specs.Whole.{Whole, Within, mag, Multiple}
use Rattle.units.specs.Rounding.{Representable}
use Rattle.units.proofs.Powers.{le_or_lt}
use Rattle.units.proofs.Multiples.{multiple_finer}

-- z is a multiple of all that a and b are multiples of, and no larger than either: so it has p bits where a and b have
pub shared : {p : ℕ} {a b : Whole} (z : Whole) → Representable p a → Representable p b → ((j : ℕ) → Multiple j a → Multiple j b → Multiple j z)
    → Within z (mag a) → Within z (mag b) → Representable p z
shared z A B on x y = elim (le_or_lt A.exp B.exp) [
  | inl l ↦ record { exp = A.exp; on = on A.exp A.on (multiple_finer l B.on); small = omega (arith, A.small) }
  | inr l ↦ record { exp = B.exp; on = on B.exp (multiple_finer (le_of_lt l) A.on) B.on; small = omega (arith, B.small) }
]
