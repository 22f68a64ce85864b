-- Of the products of pairs: whether the area holds them. Definitions only.
use Rattle.std.specs.Prelude.{ℕ}

pub data Paired : Type 0 where
  Multiplied : Paired
  Refused : ℕ → ℕ → Paired
