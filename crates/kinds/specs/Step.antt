-- Of an opening, a step and the undivided faithful sum, rules WS9 and F6: a state, and the largest remainder of the step's own round (rule WS14); a sum and the
-- rounds. Definitions only.
use Rattle.std.specs.Prelude.{ℕ, Float}
use Rattle.kinds.specs.State.{State}

pub data Step : Type 0 where
  More : State → Float → Step
  Done : Float → ℕ → Step
  Refused : ℕ → ℕ → Step
