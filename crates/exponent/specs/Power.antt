-- The float that is 2^k units. Definitions only.
use Rattle.std.specs.Prelude.{false, ℕ, suc, ◌+◌, ◌^◌, pos, Float}
use Rattle.std.specs.Float.{Format}
use Rattle.std.specs.Float.Ieee.{low, emax}
use Rattle.ieee.specs.Units.{nearest_float}

-- 2^k units are a number of the format for every k below this, 2,098 at binary64
abbrev pub powers : Format → ℕ
powers f = low f + suc (emax f)

unfoldable pub power_of : Format → ℕ → Float
power_of f k = nearest_float f false (pos (2 ^ k))
