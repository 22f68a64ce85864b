-- `weights::share::shares` meets its contract: the shares of the places passed and of those to come add up to no more than the leaver had. Assumes nothing.
use mathlib.Core.Path.{◌≡◌}
use mathlib.Core.List.{List, map}
use Prim.Native.Nat.{ℕ, ◌+◌}
use lib.ListN.{drop}
use Rattle.kinds.specs.Limits.{doubles}
use Rattle.weights.specs.Weights.{weights_of, total, share, staying}
use Rattle.weights.proofs.share.shares.Given as goal

abbrev pub stay : List ℕ → ℕ → List ℕ
stay ps at = staying at (weights_of doubles ps)

abbrev pub all : List ℕ → ℕ → ℕ → List ℕ
all ps at w = map (share w) (stay ps at)

abbrev pub invariant-loop-i : goal.invariant-loop-i
invariant-loop-i l = total (all l.list l.leaver l.w) ≡ l.sum + total (drop l.i (all l.list l.leaver l.w))
