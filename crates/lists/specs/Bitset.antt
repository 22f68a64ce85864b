-- A set of small numbers as the digits of one number, as rule WS2 wants the pending set. Definitions only.
use Rattle.std.specs.Prelude.{Bool, ℕ, ◌-◌, ◌*◌, ◌/◌, ◌%◌, ◌^◌, eqb}

-- whether b is in the set; the set without b; the set of the numbers below count
abbrev pub has : ℕ → ℕ → Bool
has s b = eqb (s / 2 ^ b % 2) 1

abbrev pub without : ℕ → ℕ → ℕ
without s b = s - s / 2 ^ b % 2 * 2 ^ b

abbrev pub full : ℕ → ℕ
full count = 2 ^ count - 1
