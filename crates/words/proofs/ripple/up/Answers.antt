-- `words::ripple::up` meets its contract: at each turn the words and the carry are what came in, but for a carry into the word i.
-- Assumes nothing.
use Rattle.std.proofs.Common.{arith}
use Rattle.words.proofs.WaysLaws.{gone_up, gone_still}
use Rattle.words.proofs.ripple.up.Goals as goal

pub loop-i-preserved : goal.loop-i-preserved
loop-i-preserved g c = gone_up _ (omega arith) c.loop-i.invariant c.step-next.ensures

pub returns-then-c-eq0-2 : goal.returns-then-c-eq0-2
returns-then-c-eq0-2 g c =
    let n = gone_up _ (omega arith) c.loop-i.invariant c.step-next.ensures in gone_still _ c.if-c-eq0-2.true n
