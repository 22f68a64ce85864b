-- `sums::long::put` meets its contract: a digit and what is above it, added to their lane. Assumes nothing.
use Rattle.sums.proofs.SignLanesLaws.{put_at}
use Rattle.sums.proofs.long.put.Goals as goal

pub returns : goal.returns
returns c = put_at c.ranges.p.fits c.requires.2 c.requires.0 c.lane-at.ensures
