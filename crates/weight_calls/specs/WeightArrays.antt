-- The leaver's weight handed on, as a C call: what it returns, and what it leaves in the lent list. Definitions only.
use Rattle.std.specs.Prelude.{List, ℕ}
use Rattle.kinds.specs.Limits.{doubles}
use Rattle.kinds.specs.Outcome.{Outcome, outcome}
use Rattle.arrays.specs.Arrays.{code_of}
use Rattle.weights.specs.Weights.{handed_of, handed_heard}

-- rule C9
abbrev pub hand_on_arrays : List ℕ → ℕ → List ℕ → Outcome ℕ ℕ
hand_on_arrays ps at out = let w = handed_of doubles ps at out in outcome (code_of (handed_heard w.answer)) w.area
