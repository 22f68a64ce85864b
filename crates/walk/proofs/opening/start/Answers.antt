-- `walk::opening::start` meets its contract: the work area is the list's floats, and the answer is that of a good list. Assumes nothing.
use Rattle.walk.specs.OpeningLaws.{opened_good}
use Rattle.walk.proofs.opening.start.Goals as goal

pub returns : goal.returns
returns g c =
    opened_good g.F.Floating.width c.args.ensemble (g.F.Floating.patterns c.args.list.now) (g.F.Floating.values c.args.work.now) c.copy.ensures
    c.first.ensures
