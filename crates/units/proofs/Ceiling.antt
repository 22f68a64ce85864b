-- How many digits a natural number has, and the exponent of the least power of two at or above it. Assumes nothing.
use Rattle.std.specs.Prelude.{◌≡◌, ℕ, ◌+◌, ◌-◌, ◌^◌, ◌≤◌, ◌<◌}
use Rattle.std.proofs.Common.{ap, inl, inr, arith, pow_pos, pow_mono}
use Rattle.std.specs.Float.Ieee.{size}
use Rattle.std.specs.Float.Ieee.Digits.{size-lt, size-le}
use Rattle.units.specs.Rounding.{ceil}
use Rattle.units.proofs.Powers.{le_or_lt}

-- a number that reaches 2 ^ j has more than j digits, so one above 0 has some
pub size_gt : (n j : ℕ) → 2 ^ j ≤ n → j < size n
size_gt n j h = elim (le_or_lt (size n) j) [ inl l ↦ absurd (omega (arith, size-lt n, pow_mono l)) | inr l ↦ l ]

pub ceil_ge : (n : ℕ) → n ≤ 2 ^ ceil n
unfolding ceil
ceil_ge n = omega (arith, size-lt (n - 1))

pub ceil_least : {n j : ℕ} → n ≤ 2 ^ j → ceil n ≤ j
unfolding ceil
ceil_least {n} {j} h = size-le (n - 1) j (omega (arith, pow_pos j))

-- n has as many digits as that exponent of n + 1
pub ceil_next : (n : ℕ) → size n ≡ ceil (n + 1)
unfolding ceil
ceil_next n = ap size (less n)
  where
    less : (n : ℕ) → n ≡ n + 1 - 1
    less n = omega arith
