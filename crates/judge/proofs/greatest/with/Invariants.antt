-- `judge::greatest::with` meets its contract: the pattern kept is the greatest of the one handed in and the places passed. Assumes nothing.
use Rattle.std.specs.Prelude.{◌≡◌, max, map, take}
use Rattle.judge.specs.GreatestLaws.{greatest}
use Rattle.judge.proofs.greatest.with.Given as goal

abbrev pub invariant-loop-p : goal.invariant-loop-p
invariant-loop-p g l =
    let p = g.F.Floating.pattern in
    p l.most ≡ max (p l.fn.pattern) (greatest g.F.Floating.width (take l.p-index (map p l.list)))
