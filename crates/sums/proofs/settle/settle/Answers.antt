-- `sums::settle::settle` meets its contract: the borrow equation gives every word. Assumes nothing.
use mathlib.Core.Path.{◌∙◌}
use Rattle.addend.proofs.RegisterWords.{held}
use Rattle.sums.proofs.SettleLaws.{settle_words}
use Rattle.sums.specs.SignLanes.{lane_sides}
use Rattle.sums.proofs.settle.settle.Goals as goal

pub returns : goal.returns
returns c =
    settle_words (lane_sides c.args.low.now c.args.above.now) c.subtract.result
    (held (c.subtract.auto.words ∙ c.requires.2) c.type_inv.words) c.subtract.ensures
