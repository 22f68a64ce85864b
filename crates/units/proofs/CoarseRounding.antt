-- A number of p + j digits or more rounds to a multiple of 2 ^ j. Assumes nothing.
use Rattle.std.specs.Prelude.{◌<◌, ◌≡◌}
use Prim.Native.Nat.{ℕ, ◌*◌, ◌^◌, ◌≤◌}
use Rattle.units.specs.Rounding.{rnd}
use Rattle.units.proofs.NaturalRounding.{finer, dropped_ge}

module _ (p : ℕ) (P : 0 < p) where
  pub rnd_coarse : (n j : ℕ) → 2 ^ p * 2 ^ j ≤ 2 * n → (w : ℕ) × (rnd p n ≡ w * 2 ^ j)
  rnd_coarse n j h = finer p n j (dropped_ge p n h)
