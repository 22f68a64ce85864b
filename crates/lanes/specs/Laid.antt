-- Of a call on lanes: how many additions and withdrawals they have taken since they were settled; and what the call gives, as that answer. Definitions only.
use Rattle.std.specs.Prelude.{ℕ, Result, Ok, Err}
use Rattle.kinds.specs.declared.refusal.Refusal.{Refusal}
use Rattle.kinds.specs.Refusals.{number, place}

pub data Laid : Type 0 where
  Counted : ℕ → Laid
  Refused : ℕ → ℕ → Laid

abbrev pub as_laid : Result ℕ Refusal → Laid
as_laid (Ok count) = Counted count
as_laid (Err r) = Refused (number r) (place r)
