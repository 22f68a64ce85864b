-- What the theorems of proofs/ReorderedRounds.antt speak of. Definitions only.
use Rattle.std.specs.Prelude.{Float}
use mathlib.Core.List.Perm
use mathlib.Core.List.{List, Perm}
use Prim.Native.Nat.{ℕ}
use Rattle.kinds.specs.Outcome.{outcome}
use Rattle.kinds.specs.State.{State}
use Rattle.kinds.specs.Step.{More, Done}
use Rattle.walk.specs.Walk.{Walked}

-- ---- a walk
pub data SameRounds : Walked → Walked → Type 0 where
  going : (s : State) (told : Float) {xs ys : List Float} → Perm xs ys → SameRounds (outcome (More s told) xs) (outcome (More s told) ys)
  ended : (x y : Float) (r : ℕ) {xs ys : List Float} → Perm xs ys → SameRounds (outcome (Done x r) xs) (outcome (Done y r) ys)
