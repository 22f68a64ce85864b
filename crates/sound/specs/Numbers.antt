-- The numbers of a sound state in propositions: n and the rounds, sigma, t and tau, the largest remainder. What else is said of such a state stands on these.
-- Definitions only.
use Rattle.std.specs.Prelude.{◌≡◌, false, ℕ, ◌+◌, ◌*◌, ◌^◌, ◌≤◌, T, Float}
use Rattle.std.specs.Float.{Format}
use Rattle.std.specs.Float.Ieee.{prec}
use Rattle.std.specs.Float.Ieee.Scale.{finite}
use Rattle.units.specs.Rounding.{ceil}
use Rattle.ieee.specs.Units.{negative, magnitude}
use Rattle.kinds.specs.Limits.{Width, exponent_of}
use Rattle.kinds.specs.State.{State}
use Rattle.judge.specs.Table.{size_of}

-- the exponent of the largest magnitude in units: 2^1000 is 2^2074 units
abbrev pub limit_exponent : Width → ℕ
limit_exponent W = ceil (size_of W W.magnitude)

-- the float 2^k units, for some k between two bounds
pub record PowerBetween (f : Format) (least most : ℕ) (x : Float) : Type 0 where
  pub k : ℕ
  pub fini : T (finite x)
  pub positive : negative x ≡ false
  pub power : magnitude f x ≡ 2 ^ k
  pub from : least ≤ k
  pub to : k ≤ most

-- rule WS6
abbrev pub SigmaBetween : Width → ℕ → Float → Type 0
SigmaBetween W n x = PowerBetween W.format (exponent_of n) (limit_exponent W + exponent_of n) x

-- finite, and not beyond so many units
pub record FiniteWithin (f : Format) (most : ℕ) (x : Float) : Type 0 where
  pub fini : T (finite x)
  pub small : magnitude f x ≤ most

-- rules WS3 and WS4
pub record Counts (W : Width) (n closed : ℕ) : Type 0 where
  pub some : 1 ≤ n
  pub few : n ≤ W.length
  pub rounds : closed ≤ W.rounds

-- rule WS15: eps is 2^-prec
pub record UpToEps (f : Format) (sigma x : Float) : Type 0 where
  pub fini : T (finite x)
  pub unsigned : negative x ≡ false
  pub small : 2 ^ prec f * magnitude f x ≤ magnitude f sigma

pub record Numbers (W : Width) (s : State) : Type 0 where
  pub counts : Counts W s.n s.rounds
  pub sigma : SigmaBetween W s.n s.sigma
  -- rule WS7
  pub t : FiniteWithin W.format (size_of W W.carried) s.t
  pub tau : FiniteWithin W.format (size_of W W.carried) s.tau
  pub largest : UpToEps W.format s.sigma s.largest
