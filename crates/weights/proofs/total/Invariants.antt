-- `weights::total` meets its contract: the places passed and those to come add up to the total. Assumes nothing.
use mathlib.Core.Path.{◌≡◌}
use Prim.Native.Nat.{◌+◌, ◌*◌, ◌≤◌}
use lib.ListN.{drop}
use Rattle.kinds.specs.Limits.{doubles}
use Rattle.weights.specs.Weights.{grains, total, weights_of}
use Rattle.weights.proofs.total.Given as goal

abbrev pub invariant-loop-p : goal.invariant-loop-p
invariant-loop-p l =
    (l.sum ≤ l.p-index * grains) × (total (weights_of doubles l.list) ≡ l.sum + total (drop l.p-index (weights_of doubles l.list)))
