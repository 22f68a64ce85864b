-- `extract::extract` meets its contract: the places passed hold their remainders, their high parts are gathered, and the greatest pattern stands for the
-- largest magnitude among those remainders and the one that was handed in. Assumes nothing.
use mathlib.Core.Path.{◌≡◌}
use mathlib.Core.List.{◌++◌}
use Prim.Native.Nat.{max}
use lib.ListN.{length, take, drop}
use Rattle.ieee.specs.Units.{magnitude}
use Rattle.extract.specs.Extract.{remainders, gathered, largest}
use Rattle.extract.specs.LargestLaws.{Stands}
use Rattle.extract.proofs.extract.Given as goal

abbrev pub invariant-loop-x : goal.invariant-loop-x
invariant-loop-x g l =
    let f = g.F.Floating.width.format in
    let v = g.F.Floating.value in
    let xs = g.F.Floating.values l.initial.block in
    (length l.block ≡ length l.initial.block)
    × (g.F.Floating.values l.block ≡ remainders f (v l.sigma) (take l.x-index xs) ++ drop l.x-index xs)
    × (v l.sum ≡ gathered f (v l.sigma) (v l.fn.tau) (take l.x-index xs))
    × Stands f (g.F.Floating.pattern l.most) (max (magnitude f (v l.fn.largest)) (largest f (remainders f (v l.sigma) (take l.x-index xs))))
