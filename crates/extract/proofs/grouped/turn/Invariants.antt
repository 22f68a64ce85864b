-- `extract::grouped::turn` meets its contract: the places passed hold their remainders, and their high parts are in sums of their own. Assumes nothing.
use mathlib.Core.Path.{◌≡◌}
use mathlib.Core.List.{◌++◌}
use Prim.Native.Nat.{◌≤◌}
use lib.ListN.{length, take, drop}
use Rattle.extract.specs.Extract.{remainders}
use Rattle.extract.specs.Grouped.{spread}
use Rattle.extract.specs.GroupedLaws.{Raised}
use Rattle.extract.proofs.grouped.turn.Given as goal

abbrev pub invariant-loop-k : goal.invariant-loop-k
invariant-loop-k g l =
    let f = g.F.Floating.width.format in
    let v = g.F.Floating.value in
    let read = g.F.Floating.values in
    let xs = read l.initial.part in
    (length l.part ≡ 8) × (l.k ≤ 8) × (length l.taus ≡ 8)
    × (read l.part ≡ remainders f (v l.sigma) (take l.k xs) ++ drop l.k xs)
    × (read l.taus ≡ spread f (v l.sigma) (read l.initial.taus) (take l.k xs))
    × Raised f (g.F.Floating.pattern l.fn.largest) (remainders f (v l.sigma) (take l.k xs)) (g.F.Floating.pattern l.most)
