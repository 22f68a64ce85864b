-- The total of a list of singles meets its contract: words that are zero hold nothing. Assumes nothing.
use Rattle.std.proofs.Common.{◌∙◌}
use Rattle.sums.proofs.SumLaws.{from_nothing}
use Rattle.sums.proofs.exact.F32Totals.total.Goals as goal

pub returns : goal.returns
returns c = c.total.ensures ∙ from_nothing _ c.requires.0
