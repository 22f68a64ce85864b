-- What the call gives, as the answer that the definitions speak of. Definitions only.
use Rattle.std.specs.Prelude.{⊤, ℕ, cond, eqb, Result, Ok, Err}
use Rattle.kinds.specs.declared.refusal.Refusal.{Refusal}
use Rattle.kinds.specs.Refusals.{number, place}
use Rattle.kinds.specs.Verdict.{Verdict, Good, Refused}
use Rattle.pairs.specs.Paired.{Paired}
use Rattle.pairs.specs.Paired as paireds

abbrev pub as_paired : Result ⊤ Refusal → Paired
as_paired (Ok x) = paireds.Multiplied
as_paired (Err r) = paireds.Refused (number r) (place r)

-- a pair at a place, by the number of its fault
abbrev pub verdict_at : ℕ → ℕ → Verdict
verdict_at k i = cond (eqb k 0) Good (Refused k i)
