-- Of an addition to a register and a withdrawal from it. Definitions only.
use Rattle.std.specs.Prelude.{ℕ}

pub data Entry : Type 0 where
  Entered : Entry
  Refused : ℕ → ℕ → Entry
