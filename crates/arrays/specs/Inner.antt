-- What the functions below the calls ask for. Definitions only.
use Rattle.kinds.specs.Heard.{Refusal}
use Rattle.kinds.specs.Limits.{doubles}
use Rattle.kinds.specs.Nearest.{Nearest}
use Rattle.kinds.specs.Nearest as nearests

-- a refusal, if it is one, is of the table
abbrev pub NearestRefusal : Nearest → Type 0
NearestRefusal (nearests.Sum x) = Unit {0}
NearestRefusal (nearests.Refused k p) = Refusal doubles.length k p
