-- What a call gives, as the answer that the definitions speak of: a refusal is its number and its place. Definitions only.
use Rattle.std.specs.Prelude.{Bool, ℕ, Float, ⊤, Result, Ok, Err}
use Rattle.kinds.specs.declared.refusal.Refusal.{Refusal}
use Rattle.kinds.specs.declared.state.State as given_state
use Rattle.kinds.specs.declared.state.Step as given
use Rattle.kinds.specs.declared.state.Step.TheVariants as gives
use Rattle.kinds.specs.State.{State}
use Rattle.kinds.specs.States.{state_of}
use Rattle.kinds.specs.Refusals.{number, place}
use Rattle.kinds.specs.Verdict.{Verdict}
use Rattle.kinds.specs.Verdict as verdicts
use Rattle.kinds.specs.Step.{Step}
use Rattle.kinds.specs.Step as steps
use Rattle.kinds.specs.Nearest.{Nearest}
use Rattle.kinds.specs.Nearest as nearests
use Rattle.kinds.specs.Parted.{Parted}
use Rattle.kinds.specs.Parted as parteds
use Rattle.kinds.specs.Entry.{Entry}
use Rattle.kinds.specs.Entry as entries
use Rattle.kinds.specs.Sheet.{Sheet}
use Rattle.kinds.specs.Sheet as sheets

-- whatever is given of an allowed list
abbrev pub as_verdict : {A : Type 0} → Result A Refusal → Verdict
as_verdict (Ok x) = verdicts.Good
as_verdict (Err r) = verdicts.Refused (number r) (place r)

-- at binary64 and at binary32 a float is one of the definitions' own
abbrev pub itself : Float → Float
itself x = x

-- at a width, whose floats are read as the definitions' own. Rules Y3, Y4 and Y5: so the walk, its calls and the sums are the definitions' at that width
abbrev pub as_state : {F : Type 0} → (F → Float) → given_state.State F → State
as_state value s = state_of s.n (value s.sigma) (value s.t) (value s.tau) s.pending s.rounds s.ensemble (value s.largest)

-- of a part of a step that refuses nothing
abbrev pub as_given : {F : Type 0} → (F → Float) → given.Step F → Step
as_given value (gives.More s told) = steps.More (as_state value s) (value told)
as_given value (gives.Done x rounds) = steps.Done (value x) rounds

abbrev pub as_step : {F : Type 0} → (F → Float) → Result (given.Step F) Refusal → Step
as_step value (Ok s) = as_given value s
as_step value (Err r) = steps.Refused (number r) (place r)

abbrev pub as_nearest : {F : Type 0} → (F → Float) → Result F Refusal → Nearest
as_nearest value (Ok x) = nearests.Sum (value x)
as_nearest value (Err r) = nearests.Refused (number r) (place r)

abbrev pub as_parted : Result Bool Refusal → Parted
as_parted (Ok b) = parteds.Parts b
as_parted (Err r) = parteds.Refused (number r) (place r)

abbrev pub as_entry : Result ⊤ Refusal → Entry
as_entry (Ok x) = entries.Entered
as_entry (Err r) = entries.Refused (number r) (place r)

abbrev pub as_sheet : Result ℕ Refusal → Sheet
as_sheet (Ok n) = sheets.Read n
as_sheet (Err r) = sheets.Refused (number r) (place r)
