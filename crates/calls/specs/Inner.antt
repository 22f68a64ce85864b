-- What the functions below the calls ask for and give. Definitions only.
use Rattle.std.specs.Prelude.{◌≡◌, ℕ, ◌+◌, ◌*◌, ◌/◌, ◌≤◌, ⊤, Result, Ok, Err}
use Rattle.kinds.specs.declared.refusal.Refusal as given
use Rattle.kinds.specs.Refusals.{number, place}
use Rattle.kinds.specs.Heard.{Refusal, place_of}
use Rattle.kinds.specs.Limits.{doubles}
use Rattle.kinds.specs.Entry.{Entry}
use Rattle.kinds.specs.Entry.{Entered, Refused}
use Rattle.calls.specs.Calls.{place_code}

-- a refusal, if it is one, is of the table
abbrev pub EntryRefusal : Entry → Type 0
EntryRefusal Entered = Unit {0}
EntryRefusal (Refused k p) = Refusal doubles.length k p

-- rule C3: the code of a refusal, and of a call that answers nothing else
abbrev pub refusal_code : given.Refusal → ℕ
refusal_code r = number r + place_code (place_of (number r) (place r))

abbrev pub code : Result ⊤ given.Refusal → ℕ
code (Ok x) = 0
code (Err r) = refusal_code r

-- so many bytes are a list of whole numbers, at most so many
pub record Listed (most bytes : ℕ) : Type 0 where
  pub whole : bytes ≡ 8 * (bytes / 8)
  pub few : bytes / 8 ≤ most
