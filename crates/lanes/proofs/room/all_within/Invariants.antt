-- `lanes::room::all_within` meets its contract: the lanes looked at have room exactly where none was found without. Assumes nothing.
use Rattle.std.proofs.Common.{leb, nat_abs}
use Rattle.lists.specs.Every.{Looked}
use Rattle.lanes.proofs.room.all_within.Given as goal

abbrev pub invariant-loop-lane : goal.invariant-loop-lane
invariant-loop-lane l = Looked (λ z. leb (nat_abs z) l.limit) l.lanes l.good l.lane-index
