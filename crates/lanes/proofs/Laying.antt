-- What the refusals of an addition and of a settling leave to what follows them. Assumes nothing.
use Rattle.std.specs.Prelude.{◌≡◌, true, List, ℕ, ℤ, ◌≤◌, T, length}
use Rattle.std.proofs.Common.{sym}
use Rattle.std.specs.Float.Ieee.{of_bits}
use Rattle.std.specs.Float.Ieee.Scale.{finite}
use Rattle.lists.specs.Digits.{inside}
use Rattle.kinds.specs.Limits.{doubles}
use Rattle.judge.specs.Judge.{fault_of}
use Rattle.judge.specs.FaultLaws.{fault_0}
use Rattle.words.specs.Words.{register_bits}
use Rattle.lanes.specs.Lanes.{lane_count, lane_bits, lane_sum, most_calls, roomy}
use Rattle.lanes.specs.Settle.{top_lane}
use Rattle.lanes.specs.Table.{Roomy}
use Rattle.lanes.proofs.RoomLaws.{roomy_when, roomy_most}
use Rattle.lanes.proofs.TopLaws.{lanes_inside}

module _ (calls : ℕ) (zs : List ℤ) where
  pub room_most : roomy calls zs ≡ true → Roomy most_calls zs
  room_most e = roomy_most ((roomy_when calls zs).0 e)

  pub room_few : roomy calls zs ≡ true → calls ≤ most_calls
  room_few e = ((roomy_when calls zs).0 e).few

pub finite_number : (p : ℕ) → fault_of doubles p ≡ 0 → T (finite (of_bits doubles.format p))
finite_number p e = ((fault_0 doubles p).0 e).0

pub top_fits : (zs : List ℤ) → length zs ≡ lane_count → inside lane_bits (top_lane zs) ≡ inside register_bits (lane_sum zs)
top_fits zs l = sym (lanes_inside zs l)

-- of an addition, and of a settling
pub ruleset adding = (room_most, room_few, finite_number)

pub ruleset settling = (room_most, top_fits)
