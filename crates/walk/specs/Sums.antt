-- What the undivided call gives, as the answer that the definitions speak of: a walk that is done. Definitions only.
use Rattle.std.specs.Prelude.{Float, Result, Ok, Err}
use Rattle.kinds.specs.declared.refusal.Refusal.{Refusal}
use Rattle.kinds.specs.Refusals.{number, place}
use Rattle.kinds.specs.Step.{Step}
use Rattle.kinds.specs.Step.{Done, Refused}
use Rattle.walk.specs.declared.sum.Sum.{Sum}

abbrev pub as_sum : {F : Type 0} → (F → Float) → Sum F → Step
as_sum value r = Done (value r.sum) r.rounds

abbrev pub as_faithful : {F : Type 0} → (F → Float) → Result (Sum F) Refusal → Step
as_faithful value (Ok r) = as_sum value r
as_faithful value (Err r) = Refused (number r) (place r)
