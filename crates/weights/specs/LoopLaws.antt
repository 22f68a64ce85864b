-- What the theorems of proofs/LoopLaws.antt speak of. Definitions only.
use Rattle.std.specs.Prelude.{◌≡◌, List, ◌++◌, map, take, drop}
use Prim.Native.Nat.{ℕ, ◌≤◌}
use Rattle.kinds.specs.Limits.{Width}
use Rattle.weights.specs.Weights.{grains, pattern_for, total, spread}

-- ---- the new weights: the places before i are written, and what is left over goes on from there
pub record Written (W : Width) (w : ℕ) (all stay out : List ℕ) (left i : ℕ) : Type 0 where
  pub rest : all ≡ take i out ++ map (pattern_for W) (spread w left (drop i stay))
  pub small : total (spread w left (drop i stay)) ≤ grains
