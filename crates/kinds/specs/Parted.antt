-- Of the sum in parts: whether the parts add up. Definitions only.
use Rattle.std.specs.Prelude.{ℕ, Bool}

pub data Parted : Type 0 where
  Parts : Bool → Parted
  Refused : ℕ → ℕ → Parted
