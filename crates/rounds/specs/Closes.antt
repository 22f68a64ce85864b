-- What the theorems of proofs/Closes.antt speak of. Definitions only.
use Rattle.std.specs.Prelude.{◌≡◌, List, ℕ, ◌+◌, Float}
use Rattle.kinds.specs.Limits.{Width}
use Rattle.kinds.specs.State.{State}
use Rattle.kinds.specs.Step.{Step}
use Rattle.kinds.specs.Step.{More, Done}
use Rattle.rounds.specs.Fitting.{Fitting}
use Rattle.rounds.specs.Begun.{Begun}

-- ---- the close: it ends the walk, or a state of the same list and ensemble with one round more opens the next round
pub data Next (W : Width) (F : Fitting W) (s : State) (ys : List Float) : Step → Type 0 where
  ends : (x : Float) → Next W F s ys (Done x (s.rounds + 1))
  goes : (e : ℕ) (s' : State) (told : Float) → s'.n ≡ s.n → s'.ensemble ≡ s.ensemble → s'.rounds ≡ s.rounds + 1 → Begun W F e s' ys
      → Next W F s ys (More s' told)
