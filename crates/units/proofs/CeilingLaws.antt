-- The exponent between two powers of two, and at one. Assumes nothing.
use Rattle.std.specs.Prelude.{◌≡◌, ℕ, suc, ◌-◌, ◌^◌, ◌≤◌, ◌<◌}
use Rattle.std.proofs.Common.{le_refl, le_trans, le_antisymm, lt_of_not-le, not-le_of_lt, pow_mono}
use Rattle.units.specs.Rounding.{ceil}
use Rattle.units.proofs.Powers.{pow_le_back}
use Rattle.units.proofs.Ceiling.{ceil_ge, ceil_least}

pub ceil_at : {n : ℕ} (j : ℕ) → 2 ^ j < n → n ≤ 2 ^ suc j → ceil n ≡ suc j
ceil_at {n} j lo hi = le_antisymm (ceil_least hi) (lt_of_not-le (λ g. not-le_of_lt lo (le_trans (ceil_ge n) (pow_mono g))))

pub ceil_power : (j : ℕ) → ceil (2 ^ j) ≡ j
ceil_power j = le_antisymm (ceil_least (le_refl (2 ^ j))) (pow_le_back j (ceil (2 ^ j)) (ceil_ge (2 ^ j)))
