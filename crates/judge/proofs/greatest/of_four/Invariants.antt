-- `judge::greatest::of_four` meets its contract: the pattern kept is the greatest of the places passed in all four. Assumes nothing.
use mathlib.Core.Path.{◌≡◌}
use mathlib.Core.List.{map}
use lib.ListN.{take}
use Rattle.judge.specs.GreatestLaws.{greatest_of_four}
use Rattle.judge.proofs.greatest.of_four.Given as goal

abbrev pub invariant-loop-i : goal.invariant-loop-i
invariant-loop-i g l =
    let p = g.F.Floating.pattern in
    p l.most ≡ greatest_of_four g.F.Floating.width (take l.i (map p l.a)) (take l.i (map p l.b)) (take l.i (map p l.c)) (take l.i (map p l.d))
