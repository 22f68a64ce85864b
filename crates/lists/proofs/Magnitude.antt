-- The sign and the magnitude of a number in two's complement: the sign is the top digit's, and the magnitude of a negative number comes by a negation, digit
-- by digit from the lowest, with a carry. Assumes nothing.
use Rattle.std.specs.Prelude.{◌≡◌, ◌↔◌, List, ℕ, zero, suc, ◌+◌, ◌-◌, ◌*◌, ◌^◌, ◌≤◌, ◌<◌, nat_abs, length, get_or, take, set}
use Rattle.std.proofs.Common.{sym, ap, ◌∙◌, add_comm, mul-suc, lt_of_not-le, mul-le-mul_right, arith, pow-add, take_all}
use Rattle.std.proofs.Math.Arith.{digits_lt}
use Rattle.std.proofs.Math.Seq.{take-length}
use Rattle.lists.specs.Digits.{number, Digits, signed}
use Rattle.lists.specs.DigitLaws.{weight_next, number_nil}
use Rattle.lists.proofs.TwosComplement.{signed_high}
use Rattle.lists.specs.LowestDigits.{number_next, number_next_set, number_take_lt}
use Rattle.lists.specs.Magnitude.{Negated}

-- 2 ^ b - u, and no less at the lowest number of all
pub magnitude_negative : (b u : ℕ) → 2 ^ (b - 1) ≤ u → u < 2 ^ b → nat_abs (signed b u) ≡ 2 ^ b - u
magnitude_negative b u h l = rw (signed_high b h) (back (2 ^ b) l)
  where
    back : (B : ℕ) → u < B → suc (B - suc u) ≡ B - u
    back B l = omega arith

-- the sign is told by the top digit
pub top_digit_lem : {w : ℕ} (ds : List ℕ) (m : ℕ) → 0 < w → length ds ≡ suc m → Digits w ds
    → (get_or ds m 0 < 2 ^ (w - 1)) ↔ (number w ds < 2 ^ (w * suc m - 1))
top_digit_lem {w} ds m W l D =
    rw (split, half)
    (λ h. digits_lt h (number_take_lt w ds D (omega arith)), λ h. lt_of_not-le (λ g. omega (arith, h, mul-le-mul_right (2 ^ (w * m)) g)))
  where
    split : number w ds ≡ get_or ds m 0 * 2 ^ (w * m) + number w (take m ds)
    split =
        ap (number w) (sym (take_all (suc m) ds (omega arith)))
        ∙ number_next w ds {i = m} (omega arith)
        ∙ add_comm (number w (take m ds)) (get_or ds m 0 * 2 ^ (w * m))

    places : w * suc m - 1 ≡ w - 1 + w * m
    places = rw (mul-suc w m) (omega arith)

    half : 2 ^ (w * suc m - 1) ≡ 2 ^ (w - 1) * 2 ^ (w * m)
    half = ap (λ (x : ℕ). 2 ^ x) places ∙ pow-add 2 (w - 1) (w * m)

module _ (w : ℕ) (ds es : List ℕ) where
  pub negated_none : Negated w ds es 0 1
  negated_none = record { carry = omega arith; sum = rw (number_nil w) (omega arith) }

  -- a digit's complement, and the carry
  pub negated_next : (i c t c' : ℕ) → i < length ds → length es ≡ length ds → Negated w ds es i c → c' ≤ 1 → t + c' * 2 ^ w + get_or ds i 0 + 1 ≡ 2 ^ w + c
      → Negated w ds (set es i t) (suc i) c'
  negated_next i c t c' h l N small step = record {
    carry = small;
    sum =
        rw (number_next_set w es {i = i} t (omega arith), number_next w ds h, weight_next w i)
        (omega (arith, N.sum, ap (λ (x : ℕ). x * 2 ^ (w * i)) step));
  }

  -- of a number above zero nothing is carried out of the top
  pub negated_all : (c : ℕ) → 0 < number w ds → length es ≡ length ds → Negated w ds es (length ds) c → number w es ≡ 2 ^ (w * length ds) - number w ds
  negated_all c U l N = go c N.carry (rw (take_all (length ds) es (omega arith), take-length ds) at N.sum)
    where
      go : (c : ℕ) → c ≤ 1 → number w es + number w ds + c * 2 ^ (w * length ds) ≡ 2 ^ (w * length ds) → number w es ≡ 2 ^ (w * length ds) - number w ds
      go zero k e = omega arith
      go (suc c) k e = absurd (omega arith)
