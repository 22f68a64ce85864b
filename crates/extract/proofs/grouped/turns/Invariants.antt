-- `extract::grouped::turns` meets its contract: eight numbers at a time, the places passed hold their remainders. Assumes nothing.
use mathlib.Core.Path.{◌≡◌}
use mathlib.Core.List.{◌++◌}
use Prim.Native.Nat.{◌*◌, ◌/◌, ◌≤◌}
use lib.Ieee.{to_bits}
use lib.ListN.{length, take, drop}
use Rattle.extract.specs.Extract.{remainders}
use Rattle.extract.specs.Grouped.{spreads}
use Rattle.extract.specs.GroupedLaws.{Raised}
use Rattle.extract.proofs.grouped.turns.Given as goal

abbrev pub invariant-loop-i : goal.invariant-loop-i
invariant-loop-i g l =
    let f = g.F.Floating.width.format in
    let v = g.F.Floating.value in
    let read = g.F.Floating.values in
    let xs = read l.initial.work in
    (length l.work ≡ length l.initial.work) × (l.i ≤ length l.initial.work / 8)
    × (length l.taus ≡ 8) × (read l.taus ≡ spreads f (v l.sigma) xs l.i)
    × (read l.work ≡ remainders f (v l.sigma) (take (8 * l.i) xs) ++ drop (8 * l.i) xs)
    × Raised f (to_bits f (v l.fn.largest)) (remainders f (v l.sigma) (take (8 * l.i) xs)) (g.F.Floating.pattern l.most)
