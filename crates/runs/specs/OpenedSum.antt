-- What the theorems of proofs/OpenedSum.antt speak of. Definitions only.
use Rattle.std.specs.Prelude.{List, ℕ, pos, Float}
use Rattle.units.specs.Walk as units
use Rattle.units.proofs.Turns as turns
use Rattle.ieee.specs.Units.{nearest_float}
use Rattle.kinds.specs.Limits.{Width}
use Rattle.judge.specs.Judge.{zero_sign}

-- the zero that a list with exact sum zero answers
abbrev pub zero_of : Width → List ℕ → Float
zero_of W ps = nearest_float W.format (zero_sign W ps) (pos 0)
