-- What the theorems of proofs/SumRun.antt speak of. Definitions only.
use Rattle.std.specs.Prelude.{◌≡◌, false, List, ℕ, suc, ◌+◌, ◌≤◌, Float}
use Rattle.std.specs.Float.Ieee.{prec}
use Rattle.units.specs.Whole.{Whole}
use Rattle.units.specs.Faithful.{Faithful}
use Rattle.ieee.specs.Units.{Number, magnitude, negative, whole}
use Rattle.kinds.specs.Limits.{Width}
use Rattle.kinds.specs.State.{State}
use Rattle.kinds.specs.Step.{Step}
use Rattle.kinds.specs.Step.{More, Done}
use Rattle.rounds.specs.Fitting.{Fitting}
use Rattle.walk.specs.Walk.{Walked}
use Rattle.runs.specs.Summing.{Summing}

-- ---- how a round over numbers that sum to S closes
pub data SumNext (W : Width) (F : Fitting W) (S : Whole) (s : State) (ys : List Float) : Step → Type 0 where
  ends : (x : Float) → Number W.format x → Faithful (prec W.format) (whole W.format x) S → (magnitude W.format x ≡ 0 → negative x ≡ false)
      → SumNext W F S s ys (Done x (s.rounds + 1))
  goes : (e : ℕ) (s' : State) (told : Float) → s'.n ≡ s.n → s'.ensemble ≡ s.ensemble → s'.rounds ≡ s.rounds + 1 → Summing W F S e s' ys
      → SumNext W F S s ys (More s' told)

-- ---- a state that opens a round of a run over n numbers that sum to S
pub record SumRunning (W : Width) (F : Fitting W) (S : Whole) (n : ℕ) (s : State) (xs : List Float) : Type 0 where
  pub e : ℕ
  pub count : s.n ≡ n
  pub summing : Summing W F S e s xs

-- a walk that ended with a faithful rounding of S
pub record Faithfully (W : Width) (S : Whole) (w : Walked) : Type 0 where
  pub sum : Float
  pub rounds : ℕ
  pub answer : w.answer ≡ Done sum rounds
  pub most : rounds ≤ suc W.rounds
  pub number : Number W.format sum
  pub faithful : Faithful (prec W.format) (whole W.format sum) S
  pub plus : magnitude W.format sum ≡ 0 → negative sum ≡ false
