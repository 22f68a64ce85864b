-- Of the sheet reader: the count. Definitions only.
use Rattle.std.specs.Prelude.{ℕ}

pub data Sheet : Type 0 where
  Read : ℕ → Sheet
  Refused : ℕ → ℕ → Sheet
