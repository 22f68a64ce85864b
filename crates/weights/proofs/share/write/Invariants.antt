-- `weights::share::write` meets its contract: the places passed hold the new weights, and what is left goes to those to come. Assumes nothing.
use mathlib.Core.List.{List, map}
use Prim.Native.Nat.{ℕ}
use Rattle.kinds.specs.Limits.{doubles}
use Rattle.weights.specs.Weights.{pattern_for, weights_of, staying, spread}
use Rattle.weights.specs.LoopLaws.{Written}
use Rattle.weights.proofs.share.write.Given as goal

abbrev pub stay : List ℕ → ℕ → List ℕ
stay ps at = staying at (weights_of doubles ps)

abbrev pub invariant-loop-i : goal.invariant-loop-i
invariant-loop-i l =
    Written doubles l.w (map (pattern_for doubles) (spread l.w l.left (stay l.list l.leaver))) (stay l.list l.leaver) l.out l.rest l.i
