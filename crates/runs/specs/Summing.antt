-- What the theorems of proofs/Summing.antt speak of. Definitions only.
use Rattle.std.specs.Prelude.{List, ℕ, Float}
use Rattle.std.specs.Float.Ieee.{prec}
use Rattle.units.specs.Whole.{Whole}
use Rattle.units.specs.Walk as units
use Rattle.ieee.specs.Units.{whole}
use Rattle.kinds.specs.Limits.{Width, exponent_of}
use Rattle.kinds.specs.State.{State}
use Rattle.rounds.specs.InUnits.{wholes}
use Rattle.rounds.specs.Fitting.{Fitting}
use Rattle.rounds.specs.Begun.{Begun}

-- a state that opens a round of a run, with t and the work numbers summing to S
pub record Summing (W : Width) (F : Fitting W) (S : Whole) (e : ℕ) (s : State) (xs : List Float) : Type 0 where
  pub begun : Begun W F e s xs
  pub opened : units.Opened (prec W.format) (exponent_of s.n) s.n e S (whole W.format s.t) (wholes W.format xs)
