-- `extract::first::from_list` meets its contract: the places passed hold the remainders of the list's numbers, their high parts are gathered, their remainders
-- are added up in rising order, and the greatest pattern stands for the largest magnitude among those. Assumes nothing.
use mathlib.Core.Path.{◌≡◌}
use mathlib.Core.List.{◌++◌, map}
use Prim.Native.Nat.{max}
use lib.Ieee.{of_bits}
use lib.ListN.{length, take, drop}
use Rattle.ieee.specs.Units.{magnitude}
use Rattle.extract.specs.Extract.{remainders, gathered, last_sum, largest}
use Rattle.extract.specs.LargestLaws.{Stands}
use Rattle.extract.proofs.first.from_list.Given as goal

abbrev pub invariant-loop-i : goal.invariant-loop-i
invariant-loop-i g l =
    let f = g.F.Floating.width.format in
    let v = g.F.Floating.value in
    let xs = map (of_bits f) (g.F.Floating.patterns l.list) in
    (length l.work ≡ length l.initial.work)
    × (g.F.Floating.values l.work ≡ remainders f (v l.sigma) (take l.i xs) ++ drop l.i (g.F.Floating.values l.initial.work))
    × (v l.gathered ≡ gathered f (v l.sigma) (v l.fn.tau) (take l.i xs))
    × (v l.sum ≡ last_sum f (remainders f (v l.sigma) (take l.i xs)))
    × Stands f (g.F.Floating.pattern l.most) (max (magnitude f (v l.fn.largest)) (largest f (remainders f (v l.sigma) (take l.i xs))))
