-- A number as its digits in base 2 ^ w, least significant first, and a signed number in two's complement. Definitions only.
use Rattle.std.specs.Prelude.{Bool, cond, List, [], ◌∷◌, ℕ, zero, suc, ◌+◌, ◌-◌, ◌*◌, ◌/◌, ◌%◌, ◌^◌, ◌<◌, ltb, ℤ, pos, negsuc, get_or}

-- the number that digits stand for, and the n lowest digits of a number
unfoldable pub number : ℕ → List ℕ → ℕ
number w [] = 0
number w (d ∷ ds) = d + number w ds * 2 ^ w

unfoldable pub digits : ℕ → ℕ → ℕ → List ℕ
digits w zero v = []
digits w (suc n) v = v % 2 ^ w ∷ digits w n (v / 2 ^ w)

-- every digit is below 2 ^ w
pub record Digits (w : ℕ) (ds : List ℕ) : Type 0 where
  pub below : (i : ℕ) → get_or ds i 0 < 2 ^ w

-- ---- two's complement at b bits: u is itself below 2 ^ (b - 1), and from there on u - 2 ^ b
unfoldable pub signed : ℕ → ℕ → ℤ
signed b u = cond (ltb u (2 ^ (b - 1))) (pos u) (negsuc (2 ^ b - suc u))

-- a whole number in b bits, what does not fit cut off, and whether it fits
unfoldable pub residue : ℕ → ℤ → ℕ
residue b (pos n) = n % 2 ^ b
residue b (negsuc n) = 2 ^ b - suc (n % 2 ^ b)

abbrev pub inside : ℕ → ℤ → Bool
inside b (pos n) = ltb n (2 ^ (b - 1))
inside b (negsuc n) = ltb n (2 ^ (b - 1))
