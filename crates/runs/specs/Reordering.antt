-- How a faithful walk over a list has ended, whichever way it went. Definitions only.
use Rattle.std.specs.Prelude.{◌≡◌, List, ℕ, Float}
use Rattle.kinds.specs.Limits.{Width}
use Rattle.kinds.specs.Outcome.{outcome}
use Rattle.kinds.specs.Step.{Done}
use Rattle.walk.specs.Walk.{faithful_of}
use Rattle.runs.specs.Runs.{run_of}

-- rule S8: a walk over ps has ended with the sum x after k rounds and has left the remainders xs: the undivided call, or a run with its blocks in any order
pub data Summed (W : Width) (ps : List ℕ) (x : Float) (k : ℕ) (xs : List Float) : Type 0 where
  undivided : (work : List Float) → faithful_of W ps work ≡ outcome (Done x k) xs → Summed W ps x k xs
  by_blocks : (e : ℕ) (work : List Float) (bs : List ℕ) → (run_of W e ps work bs).walk ≡ outcome (Done x k) xs → Summed W ps x k xs
