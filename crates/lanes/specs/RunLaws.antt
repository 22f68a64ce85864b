-- What the theorems of proofs/RunLaws.antt speak of. Definitions only.
use Rattle.std.specs.Prelude.{◌≡◌, length}
use Rattle.words.specs.Words.{word_count}
use Rattle.lanes.specs.Lanes.{lane_count}
use Rattle.lanes.specs.Table.{Roomy}
use Rattle.lanes.specs.Runs.{LaneRegister}

-- ---- lanes and words of the right lengths, and room
pub record Standing (r : LaneRegister) : Type 0 where
  pub long : length r.lanes ≡ lane_count
  pub room : Roomy r.calls r.lanes
  pub area : length r.words ≡ word_count
