-- The grade of a claim. Definitions only.
use Rattle.std.specs.Prelude.{ℕ}

pub data Graded : Type 0 where
  Exact : Graded
  Nearest : Graded
  Faithful : Graded
  Wrong : Graded
  Refused : ℕ → ℕ → Graded
