-- The quotient that is nearest is off by half of the divisor at most. Assumes nothing.
use Rattle.std.specs.Prelude.{◌≡◌, not, T}
use Rattle.std.proofs.Common.{mul-le-mul_right, div-add-mod', mod-lt}
use Rattle.std.proofs.Common.{leb→le, eqb→eq}
use Prim.Native.Nat.{ℕ, ◌-◌, ◌*◌, ◌/◌, ◌%◌, ◌≤◌, ◌<◌, compare, Ordering}
use native.Mathlib.Omega.{arith}
use Rattle.std.proofs.Math.Dec.{is_le, compare_is_eq, nleb→lt, eqb_refl}
use Rattle.std.proofs.Math.Arith.{lt_of_le-ne}
use Rattle.std.specs.Float.Ieee.{nearest}
use Rattle.std.specs.Float.Ieee.Nearest.{closest}
use Rattle.units.specs.NaturalRounding.{Off, Compared}

pub compared : (a b : ℕ) → Compared (compare a b) a b
compared a b = go (compare a b) (leb→le a b) (nleb→lt a b) (eqb→eq a b) (λ (e : a ≡ b). rw e (eqb_refl b))
  where
    go : (o : Ordering) → (T (is_le o) → a ≤ b) → (T (not (is_le o)) → b < a) → (T (compare_is_eq o) → a ≡ b) → (a ≡ b → T (compare_is_eq o)) → Compared o a b
    go Ordering.lt h k e n = lt_of_le-ne (h tt) n
    go Ordering.eq h k e n = e tt
    go Ordering.gt h k e n = k tt

pub closest_half : (a b : ℕ) → 0 < b → Off b (2 * (closest a b * b)) (2 * a)
closest_half a b B = go (compare (a % b * 2) b) (compared (a % b * 2) b)
  where
    low_bit : (q : ℕ) → q % 2 ≤ 1
    low_bit q = omega arith

    go : (o : Ordering) → Compared o (a % b * 2) b → Off b (2 * (nearest (a / b) o * b)) (2 * a)
    go Ordering.lt h = omega (arith, div-add-mod' a b)
    go Ordering.eq h = omega (arith, div-add-mod' a b, mul-le-mul_right b (low_bit (a / b)))
    go Ordering.gt h = omega (arith, div-add-mod' a b, mod-lt a B)
