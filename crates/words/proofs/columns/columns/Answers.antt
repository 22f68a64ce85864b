-- `words::columns::columns` meets its contract: at each turn the lowest i words are what is left of those that came in, but for a carry into the word i.
-- Assumes nothing.
use Rattle.std.proofs.Common.{◌∙◌, add-one}
use Rattle.words.proofs.WaysLaws.{columned_none, columned_next}
use Rattle.words.proofs.columns.columns.Goals as goal

pub loop-i-init : goal.loop-i-init
loop-i-init g c = columned_none _ _ _ _ _

pub loop-i-preserved : goal.loop-i-preserved
loop-i-preserved g c =
    rw (add-one c.loop-i.i)
    (columned_next _ c.loop-i-test.true c.requires.0 (c.loop-i.auto.out ∙ c.requires.1) c.loop-i.invariant c.step-column.ensures)
