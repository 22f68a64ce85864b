-- What the theorems of proofs/Lanes.antt speak of. Definitions only.
use Rattle.std.specs.Prelude.{List, [], ◌∷◌, ◌++◌, ℕ, ◌+◌, ◌^◌, ℤ, pos, replicate}

-- ---- numbers, counts and lanes
abbrev pub one : ℕ
one = 0x3FF0000000000000

abbrev pub nan : ℕ
nan = 0x7FF8000000000000

abbrev pub full : ℕ
full = 2 ^ 30

-- 33 zeros, a lane, and 32 zeros: where 1 goes
abbrev pub middle : ℤ → List ℤ
middle z = replicate 33 (pos 0) ++ z ∷ replicate 32 (pos 0)

-- only the top lane, and a lowest one below it
abbrev pub top : ℤ → ℤ → List ℤ
top low z = (low ∷ replicate 64 (pos 0)) ++ z ∷ []
