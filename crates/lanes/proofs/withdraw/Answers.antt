-- `lanes::withdraw` meets its contract: a withdrawal is the addition of the opposite number. Assumes nothing.
use Rattle.lanes.proofs.LayLaws.{lane_withdrawn_added}
use Rattle.lanes.proofs.withdraw.Goals as goal

pub returns : goal.returns
returns c =
    let a = c.args in
    rw (lane_withdrawn_added a.p c.ranges.p.fits a.lanes.now a.count, ← c.opposite.ensures) c.add.ensures
