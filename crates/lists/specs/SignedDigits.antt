-- A signed number as n digits of base 2 ^ w in two's complement, and the top bit of the top digit. Definitions only.
use Rattle.std.specs.Prelude.{◌≡◌, List, ℕ, ◌-◌, ◌*◌, ◌/◌, ◌^◌, ℤ, length, get_or}
use Rattle.lists.specs.Digits.{number, digits, Digits, signed, residue}

module _ (w n : ℕ) where
  -- the n digits of a signed number
  abbrev pub cut : ℤ → List ℕ
  cut z = digits w n (residue (w * n) z)

  abbrev pub whole : List ℕ → ℤ
  whole ds = signed (w * n) (number w ds)

  -- n digits below 2 ^ w
  pub record Words (ds : List ℕ) : Type 0 where
    pub long : length ds ≡ n
    pub below : Digits w ds

module _ (w : ℕ) where
  abbrev pub top_bit : ℕ → List ℕ → ℕ
  top_bit i ds = get_or ds i 0 / 2 ^ (w - 1)
