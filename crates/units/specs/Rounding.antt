-- Rounding to p significant bits: to the nearest, a tie to the even significand. Rule K8: p is a parameter, and everything above cites this. Definitions only.
-- A finite float is a whole number of its format's smallest value, so every sum of floats is rounded by `fl` at p = 53 or p = 24, and no sum underflows.
use Rattle.std.specs.Prelude.{◌≡◌, ℕ, zero, suc, ◌-◌, ◌*◌, ◌^◌, ◌≤◌}
use Rattle.std.specs.Float.Ieee.{size}
use Rattle.std.specs.Float.Ieee.Nearest.{closest}
use Rattle.units.specs.Whole.{Whole, Within, Multiple}

-- the exponent of the least power of two at or above n; of 0 as of 1 it is 0
unfoldable pub ceil : ℕ → ℕ
ceil n = size (n - 1)

-- the unit in the first place: the largest power of two that is at most n, and 0 of 0. Document 000's ufp
unfoldable pub ufp : ℕ → ℕ
ufp zero = 0
ufp (suc n) = 2 ^ (size (suc n) - 1)

-- how many low digits of n a significand of p bits has no room for; the last place that is kept stands for 2 ^ dropped
unfoldable pub dropped : ℕ → ℕ → ℕ
dropped p n = size n - p

-- n to p bits. `closest a b` is lib.Ieee's own: a / b to the nearest whole number, a tie to the even one
unfoldable pub rnd : ℕ → ℕ → ℕ
rnd p n = closest n (2 ^ dropped p n) * 2 ^ dropped p n

-- a signed number to p bits, by its magnitude: one of the two differences is 0
unfoldable pub fl : ℕ → Whole → Whole
fl p z = record { up = rnd p (z.up - z.dn); dn = rnd p (z.dn - z.up) }

-- n has at most p significant bits. (A significand of 2 ^ p is 2 ^ (p - 1) at the next exponent, and needs no case of its own.)
pub record Short (p n : ℕ) : Type 0 where
  pub exp : ℕ
  pub sig : ℕ
  pub is : n ≡ sig * 2 ^ exp
  pub small : sig ≤ 2 ^ p

-- the same of a signed number: it is a multiple of 2 ^ exp, and at most 2 ^ p of them in magnitude
pub record Representable (p : ℕ) (z : Whole) : Type 0 where
  pub exp : ℕ
  pub on : Multiple exp z
  pub small : Within z (2 ^ p * 2 ^ exp)
