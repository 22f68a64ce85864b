-- `lanes::room::all_within` meets its contract: the lanes looked at have room exactly where none was found without. Assumes nothing.
use Rattle.std.proofs.Common.{pos, arith, rules}
use Rattle.lists.specs.Every.{looked_none, looked_next, looked_all}
use Rattle.lanes.proofs.room.all_within.Goals as goal

pub loop-lane-init : goal.loop-lane-init
loop-lane-init c = looked_none

pub loop-lane-preserved : goal.loop-lane-preserved
loop-lane-preserved c = looked_next c.loop-lane.invariant (pos 0) c.loop-lane-test.true c.within-good.result (search rules)

pub returns : goal.returns
returns c = looked_all c.loop-lane.invariant (omega arith)
