-- The products of two upper halves and of two lower ones are numbers of p digits, for every s from half of p to one more. Assumes nothing.
use Rattle.std.specs.Prelude.{ℕ, ◌+◌, ◌-◌, ◌*◌, ◌^◌, ◌≤◌, ◌<◌}
use Rattle.std.proofs.Common.{mul-le-mul_left, mul-le-mul_right, arith, pow-add, pow_mono}
use Rattle.std.proofs.Math.Nat.{mul-le-mul}
use Rattle.units.specs.Whole.{Whole, ◌⊗◌, ◌⊙◌, mag, Within, Multiple}
use Rattle.units.specs.Rounding.{Representable}
use Rattle.units.proofs.Multiples.{multiple_finer}
use Rattle.units.proofs.Products.{times_multiple, times_mag, times_within}
use Rattle.units.specs.Split.{LastPlace, Halves}

module _ (a b : Whole) (c d : ℕ) where
  within_both : Within (2 ⊗ a) c → Within (2 ⊗ b) d → Within (4 ⊗ (a ⊙ b)) (c * d)
  within_both h k = let l : 2 * mag a * (2 * mag b) ≤ c * d = mul-le-mul (omega arith) (omega arith) in omega (arith, times_mag a b)

-- s is half of p rounded up, as 27 of 53 and 12 of 24; or one more, where p is even
module _ (p s i j : ℕ) (least : p ≤ s + s) (most : s + s ≤ p + 2) (l : s < p) {A B a₁ a₂ b₁ b₂ : Whole} (LA : LastPlace p i A) (LB : LastPlace p j B)
    (HA : Halves p s i A a₁ a₂) (HB : Halves p s j B b₁ b₂) where
  pub upper_upper_on : Multiple (s + s + (i + j)) (a₁ ⊙ b₁)
  upper_upper_on = multiple_finer (omega arith) (times_multiple HA.upper_on HB.upper_on)

  pub lower_lower_small : Within (4 ⊗ (a₂ ⊙ b₂)) (2 ^ s * 2 ^ s * (2 ^ i * 2 ^ j))
  lower_lower_small = omega (arith, within_both a₂ b₂ (2 ^ s * 2 ^ i) (2 ^ s * 2 ^ j) HA.lower_small HB.lower_small)

  pub upper_upper : Representable p (a₁ ⊙ b₁)
  upper_upper = record {
    exp = s + s + (i + j);
    on = upper_upper_on;
    small = omega (arith, times_within a₁ b₁ (2 ^ p * 2 ^ i) (2 ^ p * 2 ^ j) HA.upper_small HB.upper_small, mul-le-mul_left (2 ^ p) room);
  }
    where
      room : 2 ^ p * (2 ^ i * 2 ^ j) ≤ 2 ^ (s + s + (i + j))
      room = rw (pow-add 2 (s + s) (i + j), pow-add 2 i j) (mul-le-mul_right (2 ^ i * 2 ^ j) (pow_mono {i = p} {j = s + s} (omega arith)))

  pub lower_lower : Representable p (a₂ ⊙ b₂)
  lower_lower = record {
    exp = i + j;
    on = times_multiple HA.lower_on HB.lower_on;
    small = rw (pow-add 2 i j) (omega (arith, lower_lower_small, mul-le-mul_right (2 ^ i * 2 ^ j) room));
  }
    where
      room : 2 ^ s * 2 ^ s ≤ 2 ^ p * 2 ^ 2
      room = rw (← (pow-add 2 s s), ← (pow-add 2 p 2)) (pow_mono {i = s + s} {j = p + 2} (omega arith))
