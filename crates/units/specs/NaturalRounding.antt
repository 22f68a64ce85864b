-- What the theorems of proofs/NaturalRounding.antt speak of. Definitions only.
use Rattle.std.specs.Prelude.{◌≡◌}
use Prim.Native.Nat.{ℕ, ◌+◌, ◌≤◌, ◌<◌, Ordering}

-- |a - b| ≤ c
abbrev pub Off : ℕ → ℕ → ℕ → Type 0
Off c a b = (a ≤ b + c) × (b ≤ a + c)

-- ---- a / b to the nearest whole number: `closest a b * b` is the multiple of b that is nearest to a

abbrev pub Compared : Ordering → ℕ → ℕ → Type 0
Compared Ordering.lt a b = a < b
Compared Ordering.eq a b = a ≡ b
Compared Ordering.gt a b = b < a
