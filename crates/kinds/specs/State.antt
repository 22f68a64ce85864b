-- Rule WS1: the state of a walk. Definitions only.
use Rattle.std.specs.Prelude.{ℕ, Float}

pub record State : Type 0 where
  pub sigma : Float
  pub t : Float
  pub tau : Float
  pub n : ℕ
  pub pending : ℕ
  pub rounds : ℕ
  pub ensemble : ℕ
  pub largest : Float
