-- Of the sheet writer: how many bytes it wrote; and what the call gives, as that answer. Definitions only.
use Rattle.std.specs.Prelude.{ℕ, Result, Ok, Err}
use Rattle.kinds.specs.declared.refusal.Refusal.{Refusal}
use Rattle.kinds.specs.Refusals.{number, place}

pub data Written : Type 0 where
  Wrote : ℕ → Written
  Refused : ℕ → ℕ → Written

abbrev pub as_written : Result ℕ Refusal → Written
as_written (Ok size) = Wrote size
as_written (Err r) = Refused (number r) (place r)
