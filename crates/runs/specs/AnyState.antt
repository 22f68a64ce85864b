-- Rule WS10: what a step leaves of any sound state, given out by a call or not: numbers, a sigma in its bounds, and a sum that isn't -0. Definitions only.
use Rattle.std.specs.Prelude.{◌≡◌, false, List, T, Float}
use Rattle.std.specs.Float.Ieee.{fits}
use Rattle.ieee.specs.Units.{Number, magnitude, negative}
use Rattle.lists.specs.Each.{Each}
use Rattle.kinds.specs.Limits.{Width}
use Rattle.kinds.specs.State.{State}
use Rattle.kinds.specs.Step.{Step}
use Rattle.kinds.specs.Step.{More, Done, Refused}
use Rattle.sound.specs.Numbers.{SigmaBetween, UpToEps}
use Rattle.walk.specs.Walk.{Walked}

-- the format holds the floats of a state and its work area, as it always holds the code's; they may be NaN or infinite
pub record Floats (W : Width) (s : State) (xs : List Float) : Type 0 where
  pub sigma : T (fits W.format s.sigma)
  pub t : T (fits W.format s.t)
  pub tau : T (fits W.format s.tau)
  pub largest : T (fits W.format s.largest)
  pub work : Each (λ x. T (fits W.format x)) xs

-- a largest remainder that is told: a number without a sign
pub record Shown (W : Width) (x : Float) : Type 0 where
  pub number : Number W.format x
  pub positive : negative x ≡ false

-- the next state: no NaN and no infinity, a sigma of rule WS6, and a largest remainder of rule WS15. It need not be sound (rule WS11): tau may pass 2^1012
pub record StateNumbers (W : Width) (s : State) : Type 0 where
  pub sigma : Number W.format s.sigma
  pub bounds : SigmaBetween W s.n s.sigma
  pub t : Number W.format s.t
  pub tau : Number W.format s.tau
  pub largest : Number W.format s.largest
  pub within : UpToEps W.format s.sigma s.largest

-- the finished sum: no NaN, no infinity and not -0
pub record SumNumber (W : Width) (x : Float) : Type 0 where
  pub number : Number W.format x
  pub plus : magnitude W.format x ≡ 0 → negative x ≡ false

-- the answer, which is no refusal, and the work area
abbrev pub Answered : Width → Step → Type 0
Answered W (More s told) = StateNumbers W s × Shown W told
Answered W (Done x r) = SumNumber W x
Answered W (Refused k p) = ⊥

pub record Stepped (W : Width) (w : Walked) : Type 0 where
  pub answer : Answered W w.answer
  pub work : Each (Number W.format) w.area
