-- Of handing on: whether the area holds the new weights. Definitions only.
use Rattle.std.specs.Prelude.{ℕ}

pub data Handed : Type 0 where
  Shared : Handed
  Refused : ℕ → ℕ → Handed
