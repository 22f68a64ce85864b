-- `sums::short::total` meets its contract: the two sides of the list, and their difference. Assumes nothing.
use borrow.Author.Rules.{rules}
use mathlib.Core.Path.{ap, ◌∙◌}
use Rattle.words.specs.Words.{words_of}
use Rattle.sums.proofs.SumLaws.{sums_doubles}
use Rattle.sums.proofs.SideSums.{nothing, settled_sides}
use Rattle.sums.proofs.short.total.Goals as goal

pub gather-requires : goal.gather-requires
gather-requires c = (search rules, nothing, c.requires.1, c.requires.2)

pub returns : goal.returns
returns c = c.settle.ensures ∙ ap words_of (settled_sides sums_doubles c.requires.2 c.requires.1 (search rules) c.gather.ensures.1 c.gather.ensures.0)
