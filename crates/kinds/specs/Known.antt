-- What generic code knows of a width: that it is one of the two, with its figures. Definitions only.
use Rattle.std.specs.Prelude.{ℕ}
use Rattle.kinds.specs.Limits.{Width, doubles, singles}

-- the digits that a pattern stores, what the sign adds to it, the pattern of the infinity, the greatest length of a list, the pattern of the largest magnitude,
-- that of the bound of t and tau, and the most rounds closed
pub data Known : Width → ℕ → ℕ → ℕ → ℕ → ℕ → ℕ → ℕ → Type 0 where
  is_doubles : Known doubles 52 0x8000000000000000 0x7FF0000000000000 4094 0x7E70000000000000 0x7F30000000000000 50
  is_singles : Known singles 23 0x80000000 0x7F800000 2046 0x71800000 0x77000000 19
