-- `sums::exact::total` meets its contract: each way has the words of the sum. Assumes nothing.
use mathlib.Core.Path.{◌∙◌}
use Rattle.sums.proofs.SumLaws.{from_nothing}
use Rattle.sums.proofs.exact.total.Goals as goal

pub returns-then-list-lt-FEW : goal.returns-then-list-lt-FEW
returns-then-list-lt-FEW c = c.total.ensures ∙ from_nothing _ c.requires.0
