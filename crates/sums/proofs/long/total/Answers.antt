-- `sums::long::total` meets its contract: the two sides of the list in lanes, and their difference. Assumes nothing.
use mathlib.Core.Path.{ap, ◌∙◌}
use Rattle.words.specs.Words.{words_of}
use Rattle.sums.proofs.SignLanesLaws.{gathered_sum}
use Rattle.sums.proofs.long.total.Goals as goal

pub returns : goal.returns
returns c = c.settle.ensures ∙ ap words_of (gathered_sum c.gather.ensures)
