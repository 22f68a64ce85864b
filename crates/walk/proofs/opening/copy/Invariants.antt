-- `walk::opening::copy` meets its contract: the places passed are the list's floats, and no allowed pattern is a NaN's. Assumes nothing.
use Rattle.std.specs.Prelude.{◌≡◌, ◌++◌, take, drop, length}
use Rattle.judge.specs.Judge.{floats}
use Rattle.walk.proofs.opening.copy.Given as goal

abbrev pub invariant-loop-i : goal.invariant-loop-i
invariant-loop-i g l =
    (length l.work ≡ length l.initial.work)
    × (g.F.Floating.values l.work ≡ floats g.F.Floating.width (take l.i (g.F.Floating.patterns l.list)) ++ drop l.i (g.F.Floating.values l.initial.work))
