-- What the code that takes blocks and the code of a close ask of their callers. Definitions only.
use Rattle.std.specs.Prelude.{◌≡◌, false, List, ℕ, ◌-◌, T, Float}
use Rattle.std.specs.Float.{Format}
use Rattle.std.specs.Float.Ieee.Scale.{finite}
use Rattle.ieee.specs.Units.{negative}
use Rattle.lists.specs.Each.{Each}
use Rattle.kinds.specs.Limits.{Width}
use Rattle.kinds.specs.State.{State}
use Rattle.judge.specs.Table.{size_of}
use Rattle.exponent.specs.Power.{powers}
use Rattle.extract.specs.Extract.{remainder_of}
use Rattle.sound.specs.Numbers.{PowerBetween, SigmaBetween, Counts}
use Rattle.rounds.specs.InUnits.{Small}

-- a power of two of the format, of so many doublings of a unit or more
abbrev pub PowerFrom : Format → ℕ → Float → Type 0
PowerFrom f least x = PowerBetween f least (powers f - 1) x

-- the largest remainder so far has a pattern without a sign, and so will each remainder of the area
pub record Takable (W : Width) (s : State) (xs : List Float) : Type 0 where
  pub fini : T (finite s.largest)
  pub positive : negative s.largest ≡ false
  pub remainders : Each (λ x. T (finite (remainder_of W.format s.sigma x))) xs

-- n, the rounds and sigma are those of a sound state, and the largest remainder is as small as a list's numbers may be
pub record Closable (W : Width) (s : State) : Type 0 where
  pub counts : Counts W s.n s.rounds
  pub sigma : SigmaBetween W s.n s.sigma
  pub largest : Small W.format (size_of W W.magnitude) s.largest
  pub positive : negative s.largest ≡ false
