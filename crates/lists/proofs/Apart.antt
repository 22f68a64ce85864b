-- From 0 ≡ 1 anything follows: for cases that can't be, such as two constructors taken for equal. Assumes nothing.
use Rattle.std.specs.Prelude.{◌≡◌, ℕ}
use Rattle.std.proofs.Common.{arith}

pub apart {ℓ} : {X : Type ℓ} → ◌≡◌ {A = ℕ} 0 1 → X
apart e = absurd (omega arith)
