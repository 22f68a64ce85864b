-- A round in the middle: which places were taken, what the work area holds then, and the numbers that were taken. Definitions only.
use Rattle.std.specs.Prelude.{Bool, cond, List, [], ◌∷◌, ℕ, suc, ◌/◌, Float}
use Rattle.std.specs.Float.{Format}
use Rattle.lists.specs.Bitset.{has}
use Rattle.kinds.specs.Limits.{Width}
use Rattle.kinds.specs.State.{State}
use Rattle.extract.specs.Extract.{remainder_of}

-- whether the place i is in a pending block
abbrev pub pending_at : Width → ℕ → ℕ → Bool
pending_at W P i = has P (i / W.block)

-- the area xs from place i on, with the remainder at every place that isn't pending
unfoldable pub mixed : Format → Float → (ℕ → Bool) → ℕ → List Float → List Float
mixed f sigma pend i [] = []
mixed f sigma pend i (x ∷ xs) = cond (pend i) x (remainder_of f sigma x) ∷ mixed f sigma pend (suc i) xs

-- the numbers at the places that aren't pending
unfoldable pub taken_of : (ℕ → Bool) → ℕ → List Float → List Float
taken_of pend i [] = []
taken_of pend i (x ∷ xs) = cond (pend i) (taken_of pend (suc i) xs) (x ∷ taken_of pend (suc i) xs)

-- the work area of a round that s opened over xs, with the blocks of the set P pending
abbrev pub mid_area : Width → State → ℕ → List Float → List Float
mid_area W s P xs = mixed W.format s.sigma (pending_at W P) 0 xs
