-- The limits of lanes as the code has them. Definitions only.
use Rattle.std.specs.Prelude.{◌≡◌}
use Rattle.lanes.specs.Lanes.{lane_count, lane_bits, most_calls}
use Rattle.lanes.specs.declared.LaneLimits.{LaneLimits}

-- the code's constants are rules N1 and N2
pub record LanesTied (r : LaneLimits) : Type 0 where
  pub length : r.length ≡ lane_count
  pub bits : r.bits ≡ lane_bits
  pub calls : r.calls ≡ most_calls
