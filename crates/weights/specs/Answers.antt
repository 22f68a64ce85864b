-- What the call gives, as the answer that the definitions speak of. Definitions only.
use Rattle.std.specs.Prelude.{⊤, Result, Ok, Err}
use Rattle.kinds.specs.declared.refusal.Refusal.{Refusal}
use Rattle.kinds.specs.Refusals.{number, place}
use Rattle.weights.specs.Handed.{Handed}
use Rattle.weights.specs.Handed as handeds

abbrev pub as_handed : Result ⊤ Refusal → Handed
as_handed (Ok x) = handeds.Shared
as_handed (Err r) = handeds.Refused (number r) (place r)
