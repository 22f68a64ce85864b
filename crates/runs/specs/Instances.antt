-- What the theorems of proofs/Instances.antt speak of. Definitions only.
use Rattle.std.specs.Prelude.{true, ℕ, eqb, length, Float}
use mathlib.Core.List.{List}
use Rattle.kinds.specs.Limits.{Width}
use Rattle.kinds.specs.Verdict.{Good}
use Rattle.judge.specs.Table.{ListWhen}

-- an accepted list of either width
abbrev pub Accepted : Width → List ℕ → List Float → Type 0
Accepted W ps work = ListWhen W (eqb (length work) (length ps)) true ps Good
