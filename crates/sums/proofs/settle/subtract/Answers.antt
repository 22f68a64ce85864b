-- `sums::settle::subtract` meets its contract: at each turn the words below the place i are the difference of the two sides so far, but for what is carried
-- into the lanes there and borrowed from them. Assumes nothing.
use native.Mathlib.Omega.{arith}
use mathlib.Core.Path.{◌∙◌}
use lib.ListN.{length-set}
use Rattle.sums.proofs.SettleLaws.{settle_begins, settle_next, settle_ends}
use Rattle.sums.proofs.settle.subtract.Goals as goal

pub loop-i-init : goal.loop-i-init
loop-i-init c = (c.requires.2, omega arith, omega arith, settle_begins c.args.low.now c.args.above.now c.args.words.now)

pub loop-i-preserved : goal.loop-i-preserved
loop-i-preserved c =
    let v = c.loop-i.invariant in (
      length-set c.loop-i.words c.loop-i.i c.sub_word-left.result.word ∙ v.0,
      c.pair-up.ensures.small,
      c.pair-down.ensures.small,
      settle_next c.requires.0 v.0 c.loop-i-test.true v.3 c.pair-up.ensures c.pair-down.ensures c.sub_word-left.ensures,
    )

pub returns : goal.returns
returns c =
    settle_ends c.requires.0 c.loop-i.invariant.0 (omega arith) c.loop-i.invariant.3 c.sub_word-left-2.ensures
