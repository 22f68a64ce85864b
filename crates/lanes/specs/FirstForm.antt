-- What the theorems of proofs/FirstForm.antt speak of. Definitions only.
use Rattle.std.specs.Prelude.{◌≡◌, List, ℕ}
use Rattle.words.specs.Words.{whole_of}
use Rattle.addend.specs.Addend.{Held}
use Rattle.lanes.specs.Lanes.{lane_sum}
use Rattle.lanes.specs.Runs.{LaneRegister}
use Rattle.lanes.specs.RunLaws.{Standing}

-- ---- the same whole number
pub record Agree (r : LaneRegister) (ws : List ℕ) : Type 0 where
  pub standing : Standing r
  pub held : Held ws
  pub whole : lane_sum r.lanes ≡ whole_of ws
