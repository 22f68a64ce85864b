-- Of a list: whether it is allowed. Definitions only.
use Rattle.std.specs.Prelude.{ℕ}

pub data Verdict : Type 0 where
  Good : Verdict
  Refused : ℕ → ℕ → Verdict
