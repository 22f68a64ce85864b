-- What the theorems of proofs/Faithful.antt speak of. Definitions only.
use Rattle.std.specs.Prelude.{◌≡◌, List, ℕ, suc, ◌≤◌, Float}
use Rattle.ieee.specs.Units.{magnitude, negative}
use Rattle.ieee.specs.Accuracy.{FaithfulTo, CloseTo}
use Rattle.kinds.specs.Limits.{Width}
use Rattle.kinds.specs.Step.{Done}
use Rattle.judge.specs.Judge.{zero_sign}
use Rattle.sums.specs.Sums.{sum_of}
use Rattle.walk.specs.Walk.{Walked}

-- what the undivided call leaves of an accepted list
pub record FaithfulSum (W : Width) (ps : List ℕ) (w : Walked) : Type 0 where
  pub sum : Float
  pub rounds : ℕ
  pub answer : w.answer ≡ Done sum rounds
  pub faithful : FaithfulTo W.format (sum_of W.format ps) sum
  -- rule S9
  pub close : CloseTo W.format (sum_of W.format ps) sum
  pub most : rounds ≤ suc W.rounds
  -- rule S3
  pub zero : magnitude W.format sum ≡ 0 → negative sum ≡ zero_sign W ps
