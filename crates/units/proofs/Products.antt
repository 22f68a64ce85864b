-- Products of signed whole numbers: they go by the numbers and not by how those are written, they are the products of the language's own integers, and the
-- magnitude, the multiples of powers of two and the bounds of a product are those of its factors, multiplied. Assumes nothing.
use Rattle.std.specs.Prelude.{◌≡◌, ◌⊎◌, ℕ, suc, ◌+◌, ◌*◌, ◌^◌, ◌≤◌, ◌<◌, ℤ, pos, negsuc, ◌*ℤ◌}
use Rattle.std.proofs.Common.{ap, inl, inr, mul-le-mul, pow-add}
use Rattle.std.proofs.Math.Nat.{mul-sub}
use native.Mathlib.Omega.{arith}
use Rattle.units.specs.Whole.{Whole, nat, ◌⊕◌, neg, ◌⊗◌, ◌⊙◌, ◌≈◌, mag, Within, Multiple, int, difference}
use Rattle.units.proofs.Powers.{le_or_lt}
use Rattle.units.proofs.Integers.{int_is, int_only, neg_difference}

-- ---- as the numbers go
pub times_comm : (a b : Whole) → a ⊙ b ≡ b ⊙ a
unfolding ◌⊙◌
times_comm a b = λ i. record { up = u i; dn = d i }
  where
    u : a.up * b.up + a.dn * b.dn ≡ b.up * a.up + b.dn * a.dn
    u = omega arith

    d : a.up * b.dn + a.dn * b.up ≡ b.up * a.dn + b.dn * a.up
    d = omega arith

times_left : (a c b : Whole) → a ≈ c → a ⊙ b ≈ c ⊙ b
unfolding ◌⊙◌
times_left a c b e = omega (arith, ap (λ (x : ℕ). x * b.up) e, ap (λ (x : ℕ). x * b.dn) e)

pub times_same : (a b c d : Whole) → a ≈ c → b ≈ d → a ⊙ b ≈ c ⊙ d
times_same a b c d e g =
    let l : a ⊙ b ≈ c ⊙ b = times_left a c b e in
    let r : c ⊙ b ≈ c ⊙ d = rw (times_comm c b, times_comm c d) (times_left b d c g) in
    omega arith

-- ---- sums, negation and scaling
module _ (a b c : Whole) where
  pub times_plus : a ⊙ (b ⊕ c) ≈ a ⊙ b ⊕ a ⊙ c
  unfolding ◌⊙◌
  times_plus = omega arith

  pub plus_times : (a ⊕ b) ⊙ c ≈ a ⊙ c ⊕ b ⊙ c
  unfolding ◌⊙◌
  plus_times = omega arith

pub nat_times : (k : ℕ) (a : Whole) → nat k ⊙ a ≈ k ⊗ a
unfolding ◌⊙◌
nat_times k a = omega arith

pub times_scale : (j k : ℕ) (a b : Whole) → (j ⊗ a) ⊙ (k ⊗ b) ≈ (j * k) ⊗ (a ⊙ b)
unfolding ◌⊙◌
times_scale j k a b = omega arith

pub times_multiple : {i j : ℕ} {a b : Whole} → Multiple i a → Multiple j b → Multiple (i + j) (a ⊙ b)
times_multiple {i} {j} {a} {b} A B = record { count = A.count ⊙ B.count; is = rw (pow-add 2 i j) (omega (arith, x, y)) }
  where
    x : a ⊙ b ≈ (2 ^ i ⊗ A.count) ⊙ (2 ^ j ⊗ B.count)
    x = times_same a b (2 ^ i ⊗ A.count) (2 ^ j ⊗ B.count) A.is B.is

    y : (2 ^ i ⊗ A.count) ⊙ (2 ^ j ⊗ B.count) ≈ (2 ^ i * 2 ^ j) ⊗ (A.count ⊙ B.count)
    y = times_scale (2 ^ i) (2 ^ j) A.count B.count

-- ---- magnitudes
pub scale_mag : (k : ℕ) (a : Whole) → mag (k ⊗ a) ≡ k * mag a
scale_mag k a = omega (arith, mul-sub k a.up a.dn, mul-sub k a.dn a.up)

module _ (m n : ℕ) where
  nat_nat : nat m ⊙ nat n ≈ nat (m * n)
  unfolding ◌⊙◌
  nat_nat = omega arith

  nat_neg : nat m ⊙ neg (nat n) ≈ neg (nat (m * n))
  unfolding ◌⊙◌
  nat_neg = omega arith

  neg_nat : neg (nat m) ⊙ nat n ≈ neg (nat (m * n))
  unfolding ◌⊙◌
  neg_nat = omega arith

  neg_neg : neg (nat m) ⊙ neg (nat n) ≈ nat (m * n)
  unfolding ◌⊙◌
  neg_neg = omega arith

pub times_mag : (a b : Whole) → mag (a ⊙ b) ≡ mag a * mag b
times_mag a b = by (le_or_lt a.dn a.up) (le_or_lt b.dn b.up)
  where
    m : ℕ
    m = mag a

    n : ℕ
    n = mag b

    by : (a.dn ≤ a.up) ⊎ (a.up < a.dn) → (b.dn ≤ b.up) ⊎ (b.up < b.dn) → mag (a ⊙ b) ≡ m * n
    by (inl h) (inl k) =
        let e : a ⊙ b ≈ nat m ⊙ nat n = times_same a b (nat m) (nat n) (omega arith) (omega arith) in
        omega (arith, nat_nat m n)
    by (inl h) (inr k) =
        let e : a ⊙ b ≈ nat m ⊙ neg (nat n) = times_same a b (nat m) (neg (nat n)) (omega arith) (omega arith) in
        omega (arith, nat_neg m n)
    by (inr h) (inl k) =
        let e : a ⊙ b ≈ neg (nat m) ⊙ nat n = times_same a b (neg (nat m)) (nat n) (omega arith) (omega arith) in
        omega (arith, neg_nat m n)
    by (inr h) (inr k) =
        let e : a ⊙ b ≈ neg (nat m) ⊙ neg (nat n) = times_same a b (neg (nat m)) (neg (nat n)) (omega arith) (omega arith) in
        omega (arith, neg_neg m n)

pub times_within : (a b : Whole) (c d : ℕ) → Within a c → Within b d → Within (a ⊙ b) (c * d)
times_within a b c d h k =
    let l : mag (a ⊙ b) ≤ c * d = rw (times_mag a b) (mul-le-mul (omega arith) (omega arith)) in
    omega arith

-- ---- the language's own product
times_difference : (S T : ℤ) → difference (S *ℤ T) ≈ difference S ⊙ difference T
times_difference (pos m) (pos n) = omega (arith, nat_nat m n)
times_difference (pos m) (negsuc n) = omega (arith, nat_neg m (suc n), neg_difference (pos (m * suc n)))
times_difference (negsuc m) (pos n) = omega (arith, neg_nat (suc m) n, neg_difference (pos (suc m * n)))
times_difference (negsuc m) (negsuc n) = omega (arith, neg_neg (suc m) (suc n))

pub int_times : (a b : Whole) → int (a ⊙ b) ≡ int a *ℤ int b
int_times a b = int_only (a ⊙ b) (int a *ℤ int b) (omega (arith, e, times_difference (int a) (int b)))
  where
    e : a ⊙ b ≈ difference (int a) ⊙ difference (int b)
    e = times_same a b (difference (int a)) (difference (int b)) (int_is a) (int_is b)
