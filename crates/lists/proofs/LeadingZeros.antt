-- The count of leading zeros of a number of w bits tells how many digits it has. Assumes nothing.
use Rattle.std.specs.Prelude.{◌≡◌, refl, ℕ, zero, suc, ◌+◌, ◌-◌, ◌*◌, ◌^◌, ◌≤◌, ◌<◌}
use Rattle.std.proofs.Common.{pow-suc, arith}
use Rattle.std.specs.Int.Count.{count_leading_zeros, leading_unique}
use Rattle.std.specs.Float.Ieee.{size}
use Rattle.std.specs.Float.Ieee.Digits.{size-lt, size_reaches, size-le}

pub size_is : (w x : ℕ) → x < 2 ^ w → w - count_leading_zeros w x ≡ size x
size_is w x h =
    let s : size x ≤ w = size-le x w h in
    let e : w - size x ≡ count_leading_zeros w x = leading_unique w x (w - size x) (size x) (omega arith) (size-lt x) (reaches (size x) refl) in
    omega arith
  where
    reaches : (m : ℕ) → m ≡ size x → 2 ^ m ≤ 2 * x + 1
    reaches zero e = omega arith
    reaches (suc j) e = omega (arith, pow-suc 2 j, size_reaches x j (omega arith))
