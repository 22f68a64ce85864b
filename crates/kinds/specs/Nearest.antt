-- Of the nearest sum and of rounding a register. Definitions only.
use Rattle.std.specs.Prelude.{ℕ, Float}

pub data Nearest : Type 0 where
  Sum : Float → Nearest
  Refused : ℕ → ℕ → Nearest
