-- Of a rescue: its report; and what the call gives, as that answer. Definitions only.
use Rattle.std.specs.Prelude.{ℕ, Result, Ok, Err}
use Rattle.kinds.specs.declared.refusal.Refusal.{Refusal}
use Rattle.kinds.specs.Refusals.{number, place}
use Rattle.rescue.specs.declared.Report.{Report}

pub data Rescued : Type 0 where
  Saved : Report → Rescued
  Refused : ℕ → ℕ → Rescued

abbrev pub as_rescued : Result Report Refusal → Rescued
as_rescued (Ok r) = Saved r
as_rescued (Err r) = Refused (number r) (place r)
