-- What the theorems of proofs/TakenLaws.antt speak of. Definitions only.
use Prim.Native.Nat.{ℕ, ◌+◌, ◌≤◌, ◌<◌}

-- of the places from i on, k of them
abbrev pub Throughout : (ℕ → Type 0) → ℕ → ℕ → Type 0
Throughout A i k = (j : ℕ) → i ≤ j → j < i + k → A j
