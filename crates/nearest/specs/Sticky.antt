-- Rounding needs only the leading digits of a number, and whether anything stands below them. Assumes nothing.
use Rattle.std.specs.Prelude.{◌≡◌, ℕ, suc, ◌+◌, ◌-◌, ◌*◌, ◌/◌, ◌%◌, ◌^◌, ◌<◌, ◌≤◌, Bool, cond, ◌⊎◌, nat_lt, refl}
use Rattle.std.proofs.Common.{sym, ap, ◌∙◌, inl, inr, le_antisymm, le_of_lt, lt_of_lt_of_le, eq-zero-or-pos, add_comm, mul_comm, mul-le-mul_right, mod-lt}
use Rattle.std.proofs.Common.{div-lt_iff_lt-mul, arith, lt-ltb, pow-add, pow_pos, shr-shr}
use Prim.Native.Nat.{compare, Ordering}
use Rattle.std.proofs.lemmas.Nat.{mod-pow-add}
use Rattle.std.specs.Float.Ieee.{size, nearest}
use Rattle.std.specs.Float.Ieee.Digits.{size-lt, size-le}
use Rattle.std.specs.Float.Ieee.Fits.{nearest-le}
use Rattle.std.specs.Float.Ieee.Nearest.{closest}
use Rattle.units.specs.Rounding.{dropped}
use Rattle.units.proofs.Powers.{pow_pred, cover}
use Rattle.units.specs.NaturalRounding.{Compared}
use Rattle.units.proofs.Closest.{compared}

-- a / b to the nearest whole number, a tie to the even one, where s says that something less than one stands below a
abbrev pub closest_over : Bool → ℕ → ℕ → ℕ
closest_over s a b = nearest (a / b) (compare (a % b * 2 + cond s 1 0) b)

-- ---- how many digits there are

pub dropped_is : (p n : ℕ) → dropped p n ≡ size n - p
unfolding dropped
dropped_is p n = refl

size_shift : (n k : ℕ) → size (n / 2 ^ k) ≡ size n - k
size_shift n k = le_antisymm (size-le (n / 2 ^ k) (size n - k) fewer) (back (size n) (size (n / 2 ^ k)) (size-le n (size (n / 2 ^ k) + k) more))
  where
    fewer : n / 2 ^ k < 2 ^ (size n - k)
    fewer = (div-lt_iff_lt-mul (pow_pos k)).1 (rw (mul_comm (2 ^ (size n - k)) (2 ^ k)) (lt_of_lt_of_le (size-lt n) (cover k (size n))))

    more : n < 2 ^ (size (n / 2 ^ k) + k)
    more = rw (pow-add 2 (size (n / 2 ^ k)) k) ((div-lt_iff_lt-mul (pow_pos k)).0 (size-lt (n / 2 ^ k)))

    back : (a b : ℕ) → a ≤ b + k → a - k ≤ b
    back a b h = omega arith

-- a significand of p bits drops those below the leading w, and of these again
pub dropped_head : {p w : ℕ} (n : ℕ) → p ≤ w → dropped p n ≡ dropped w n + dropped p (n / 2 ^ dropped w n)
unfolding dropped
dropped_head {p} {w} n h = rw (size_shift n (size n - w)) (count (size n))
  where
    count : (z : ℕ) → z - p ≡ z - w + (z - (z - w) - p)
    count z = omega arith

-- ---- what is compared with a half

agree : (o o' : Ordering) (a b : ℕ) → Compared o a b → Compared o' a b → o ≡ o'
agree Ordering.lt Ordering.lt a b h k = refl
agree Ordering.lt Ordering.eq a b h k = absurd (omega arith)
agree Ordering.lt Ordering.gt a b h k = absurd (omega arith)
agree Ordering.eq Ordering.lt a b h k = absurd (omega arith)
agree Ordering.eq Ordering.eq a b h k = refl
agree Ordering.eq Ordering.gt a b h k = absurd (omega arith)
agree Ordering.gt Ordering.lt a b h k = absurd (omega arith)
agree Ordering.gt Ordering.eq a b h k = absurd (omega arith)
agree Ordering.gt Ordering.gt a b h k = refl

-- the three cases of the rounding
module _ (s : Bool) (a b : ℕ) where
  case : (o : Ordering) → Compared o (a % b * 2 + cond s 1 0) b → closest_over s a b ≡ nearest (a / b) o
  case o h = ap (nearest (a / b)) (agree (compare (a % b * 2 + cond s 1 0) b) o (a % b * 2 + cond s 1 0) b (compared (a % b * 2 + cond s 1 0) b) h)

  pub over_most : closest_over s a b ≤ suc (a / b)
  over_most = nearest-le (a / b) (compare (a % b * 2 + cond s 1 0) b)

  pub over_down : a % b * 2 + cond s 1 0 < b → closest_over s a b ≡ a / b
  over_down = case Ordering.lt

  pub over_tie : a % b * 2 + cond s 1 0 ≡ b → closest_over s a b ≡ a / b + a / b % 2
  over_tie = case Ordering.eq

  pub over_up : b < a % b * 2 + cond s 1 0 → closest_over s a b ≡ suc (a / b)
  over_up = case Ordering.gt

alike : (a b c d : ℕ) → ((o : Ordering) → Compared o a b → Compared o c d) → compare c d ≡ compare a b
alike a b c d f = agree (compare c d) (compare a b) c d (compared c d) (f (compare a b) (compared a b))

-- t of the weight K and a rest r below K, against half of D of that weight. D is even where there is a rest
module _ (K D E t r : ℕ) (below : r < K) where
  bare : (o : Ordering) → Compared o (t * 2 + 0) D → Compared o ((t * K + 0) * 2) (D * K)
  bare Ordering.lt h = omega (arith, mul-le-mul_right K h)
  bare Ordering.eq h = omega (arith, ap (λ (x : ℕ). x * K) h)
  bare Ordering.gt h = omega (arith, mul-le-mul_right K h)

  stuck : 0 < r → D ≡ 2 * E → (o : Ordering) → Compared o (t * 2 + 1) D → Compared o ((t * K + r) * 2) (D * K)
  stuck R e Ordering.lt h = omega (arith, mul-le-mul_right K h)
  stuck R e Ordering.eq h = absurd (omega arith)
  stuck R e Ordering.gt h = omega (arith, mul-le-mul_right K h)

  against : (r ≡ 0) ⊎ ((0 < r) × (D ≡ 2 * E)) → compare ((t * K + r) * 2) (D * K) ≡ compare (t * 2 + cond (nat_lt 0 r) 1 0) D
  against (inl e) = rw e (alike (t * 2 + 0) D ((t * K + 0) * 2) (D * K) bare)
  against (inr e) = rw (lt-ltb 0 r e.0) (alike (t * 2 + 1) D ((t * K + r) * 2) (D * K) (stuck e.0 e.1))

-- the lowest k digits and j above them are dropped. Where k isn't zero, j must not be
closest_head : (n k j : ℕ) → (0 < k → 0 < j) → closest n (2 ^ (k + j)) ≡ closest_over (nat_lt 0 (n % 2 ^ k)) (n / 2 ^ k) (2 ^ j)
closest_head n k j h =
    rw (← (shr-shr n k j), add_comm k j, mod-pow-add n j k, pow-add 2 j k)
    (ap (nearest (n / 2 ^ k / 2 ^ j)) (against (2 ^ k) (2 ^ j) (2 ^ (j - 1)) (n / 2 ^ k % 2 ^ j) (n % 2 ^ k) (mod-lt n (pow_pos k)) (rest (eq-zero-or-pos k))))
  where
    rest : (k ≡ 0) ⊎ (0 < k) → (n % 2 ^ k ≡ 0) ⊎ ((0 < n % 2 ^ k) × (2 ^ j ≡ 2 * 2 ^ (j - 1)))
    rest (inl e) = inl (rw e (omega arith))
    rest (inr l) = elim (eq-zero-or-pos (n % 2 ^ k)) [ inl e ↦ inl e | inr r ↦ inr (r, sym (pow_pred (h l))) ]

-- the leading w digits of a number and whether anything stands below them round to p bits as the number does
pub rounds_as_head : {p w : ℕ} (n : ℕ) → p < w
    → closest n (2 ^ dropped p n) ≡ closest_over (nat_lt 0 (n % 2 ^ dropped w n)) (n / 2 ^ dropped w n) (2 ^ dropped p (n / 2 ^ dropped w n))
unfolding dropped
rounds_as_head {p} {w} n h =
    ap (λ (x : ℕ). closest n (2 ^ x)) (dropped_head n (le_of_lt h))
    ∙ closest_head n (dropped w n) (dropped p (n / 2 ^ dropped w n)) (λ l. rw (size_shift n (dropped w n)) (more (size n) l))
  where
    more : (z : ℕ) → 0 < z - w → 0 < z - (z - w) - p
    more z l = omega arith
