-- A difference of naturals as one of the language's own integers, and back: the same number, with the same sums, magnitude and order. Assumes nothing.
use Rattle.std.specs.Prelude.{◌≡◌, ◌↔◌, Bool, true, false, not, cond, zero, suc, ◌-◌, ◌≤◌, ◌<◌, ℤ, pos, negsuc, neg_ℤ, nat_abs, ◌+ℤ◌, ◌-ℤ◌, ◌≤ℤ◌, ◌<ℤ◌, T, ltb}
use Rattle.std.proofs.Common.{ap, arith, leb→le, le→leb, ltb→lt, lt→ltb, nltb→le}
use Rattle.units.specs.Whole.{Whole, neg, ◌⊕◌, ◌⊖◌, ◌≈◌, ◌≼◌, ◌≺◌, mag, int, difference}

-- ---- a and int a are the same number, and a is no other integer
pub int_is : (a : Whole) → a ≈ difference (int a)
unfolding int
int_is a = go (ltb a.up a.dn) (ltb→lt a.up a.dn) (nltb→le a.up a.dn)
  where
    go : (b : Bool) → (T b → a.up < a.dn) → (T (not b) → a.dn ≤ a.up) → a ≈ difference (cond b (negsuc (a.dn - suc a.up)) (pos (a.up - a.dn)))
    go true l g = let h : a.up < a.dn = l tt in omega arith
    go false l g = let h : a.dn ≤ a.up = g tt in omega arith

pub int_only : (a : Whole) (S : ℤ) → a ≈ difference S → int a ≡ S
int_only a S e = one (int a) S (omega (arith, int_is a))
  where
    one : (S T : ℤ) → difference S ≈ difference T → S ≡ T
    one (pos m) (pos n) e = ap pos (omega arith)
    one (pos m) (negsuc n) e = absurd (omega arith)
    one (negsuc m) (pos n) e = absurd (omega arith)
    one (negsuc m) (negsuc n) e = ap negsuc (omega arith)

pub int_difference : (S : ℤ) → int (difference S) ≡ S
int_difference S = int_only (difference S) S (omega arith)

-- ---- sums, negation, magnitude and order of integers, as those of differences
plus : (S T : ℤ) → difference (S +ℤ T) ≈ difference S ⊕ difference T
unfolding int
plus (pos m) (pos n) = omega arith
plus (pos m) (negsuc n) = omega (arith, int_is (record { up = m; dn = suc n }))
plus (negsuc m) (pos n) = omega (arith, int_is (record { up = n; dn = suc m }))
plus (negsuc m) (negsuc n) = omega arith

pub neg_difference : (S : ℤ) → difference (neg_ℤ S) ≈ neg (difference S)
neg_difference (pos zero) = omega arith
neg_difference (pos (suc n)) = omega arith
neg_difference (negsuc n) = omega arith

pub mag_difference : (S : ℤ) → mag (difference S) ≡ nat_abs S
mag_difference (pos n) = omega arith
mag_difference (negsuc n) = omega arith

le : (S T : ℤ) → difference S ≼ difference T ↔ S ≤ℤ T
le (pos m) (pos n) = (λ h. record { le = le→leb m n (omega arith) }, λ h. omega (arith, leb→le m n h.le))
le (pos m) (negsuc n) = (λ h. absurd (omega arith), λ h. absurd h.le)
le (negsuc m) (pos n) = (λ h. record { le = tt }, λ h. omega arith)
le (negsuc m) (negsuc n) = (λ h. record { le = le→leb n m (omega arith) }, λ h. omega (arith, leb→le n m h.le))

lt : (S T : ℤ) → difference S ≺ difference T ↔ S <ℤ T
lt (pos m) (pos n) = (λ h. record { lt = lt→ltb m n (omega arith) }, λ h. omega (arith, ltb→lt m n h.lt))
lt (pos m) (negsuc n) = (λ h. absurd (omega arith), λ h. absurd h.lt)
lt (negsuc m) (pos n) = (λ h. record { lt = tt }, λ h. omega arith)
lt (negsuc m) (negsuc n) = (λ h. record { lt = lt→ltb n m (omega arith) }, λ h. omega (arith, ltb→lt n m h.lt))

-- ---- and the other way
pub int_neg : (a : Whole) → int (neg a) ≡ neg_ℤ (int a)
int_neg a = int_only (neg a) (neg_ℤ (int a)) (omega (arith, int_is a, neg_difference (int a)))

pub int_mag : (a : Whole) → nat_abs (int a) ≡ mag a
int_mag a = omega (arith, mag_difference (int a), int_is a)

module _ (a b : Whole) where
  pub int_same : a ≈ b → int a ≡ int b
  int_same e = int_only a (int b) (omega (arith, int_is b))

  pub int_back : int a ≡ int b → a ≈ b
  int_back e = let h : a ≈ difference (int b) = rw e at (int_is a) in omega (arith, int_is b)

  pub int_plus : int (a ⊕ b) ≡ int a +ℤ int b
  int_plus = int_only (a ⊕ b) (int a +ℤ int b) (omega (arith, int_is a, int_is b, plus (int a) (int b)))

  pub int_minus : int (a ⊖ b) ≡ int a -ℤ int b
  int_minus = int_only (a ⊖ b) (int a -ℤ int b) (omega (arith, int_is a, int_is b, neg_difference (int b), plus (int a) (neg_ℤ (int b))))

  pub int_le : a ≼ b ↔ int a ≤ℤ int b
  int_le = (λ h. (le (int a) (int b)).0 (omega (arith, int_is a, int_is b)), λ h. omega (arith, int_is a, int_is b, (le (int a) (int b)).1 h))

  pub int_lt : a ≺ b ↔ int a <ℤ int b
  int_lt = (λ h. (lt (int a) (int b)).0 (omega (arith, int_is a, int_is b)), λ h. omega (arith, int_is a, int_is b, (lt (int a) (int b)).1 h))
