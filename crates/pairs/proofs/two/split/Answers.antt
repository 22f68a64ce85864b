-- `pairs::two::split` meets its contract: it is Algorithm 1.2, operation by operation. Assumes nothing.
use mathlib.Core.Path.{refl}
use Rattle.ieee.specs.ErrorFree.{upper_half, lower_half}
use Rattle.pairs.proofs.two.split.Goals as goal

pub returns : goal.returns
unfolding upper_half lower_half
returns c = (refl, refl)
