-- Bytes put behind a text in a lent area. Definitions only.
use Rattle.std.specs.Prelude.{◌≡◌, List, ℕ, ◌+◌, length}
use Rattle.std.proofs.Math.Seq.{paste}

-- the bytes stand from a place on, the answer is where they end, and the rest of the area is untouched
pub record Placed (bytes : List ℕ) (place : ℕ) (area : List ℕ) (answer : ℕ) (after : List ℕ) : Type 0 where
  pub end : answer ≡ place + length bytes
  pub text : after ≡ paste area place bytes (length bytes)
