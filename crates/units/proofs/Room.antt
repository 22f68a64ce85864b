-- The room that a walk wants: 2 M + 1 ≤ p. Assumes nothing.
use Rattle.std.specs.Prelude.{ℕ, ◌+◌, ◌-◌, ◌*◌, ◌^◌, ◌≤◌, ◌<◌}
use Rattle.std.proofs.Common.{arith, pow-add, pow_mono}

module _ (p M n : ℕ) (two : 2 ≤ M) (fit : M + M < p) (few : n + 2 ≤ 2 ^ M) where
  pub room : 2 * (2 ^ M * 2 ^ M) ≤ 2 ^ p
  room = omega (arith, pow_mono fit, pow-add 2 M M)
