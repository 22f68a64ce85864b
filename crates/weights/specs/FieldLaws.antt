-- What the theorems of proofs/FieldLaws.antt speak of. Definitions only.
use Rattle.std.specs.Prelude.{ℕ, ◌*◌, ◌^◌, ◌≤◌, ◌<◌}

-- ---- how far that is, by the count of leading zeros: a significand has 53 of 64 digits
pub record Moved (k j : ℕ) : Type 0 where
  pub least : 22 ≤ j
  pub most : j ≤ 52
  pub from : 2 ^ 52 ≤ k * 2 ^ j
  pub to : k * 2 ^ j < 2 ^ 53
