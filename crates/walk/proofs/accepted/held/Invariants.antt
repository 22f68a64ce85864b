-- `walk::accepted::held` meets its contract: each number that was passed is one that the width holds. Assumes nothing.
use Rattle.std.specs.Prelude.{ℕ, ◌<◌, T, get_or}
use Rattle.std.specs.Float.Ieee.{nan, fits}
use Rattle.walk.proofs.accepted.held.Given as goal

abbrev pub invariant-loop-x : goal.invariant-loop-x
invariant-loop-x g l = (i : ℕ) → i < l.x-index → T (fits g.F.Floating.width.format (get_or (g.F.Floating.values l.work) i nan))
