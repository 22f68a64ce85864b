-- Multiples of a power of two: sums, coarser and finer ones, and that one above 0 is at least that power. Assumes nothing.
use Rattle.std.specs.Prelude.{◌≡◌, ℕ, ◌-◌, ◌*◌, ◌^◌, ◌≤◌}
use Rattle.std.proofs.Common.{sym, ap, ◌∙◌, inl, inr, mul-le-mul_left, mul_assoc, mul_comm, arith}
use Rattle.units.specs.Whole.{Whole, nat, ◌⊕◌, ◌⊖◌, neg, ◌⊗◌, ◌≈◌, ◌≼◌, ◌≺◌, Multiple}
use Rattle.units.proofs.Powers.{le_or_lt, pow_split}

pub multiple_add : {j : ℕ} {a b : Whole} → Multiple j a → Multiple j b → Multiple j (a ⊕ b)
multiple_add A B = record { count = A.count ⊕ B.count; is = omega arith }

pub multiple_neg : {j : ℕ} {a : Whole} → Multiple j a → Multiple j (neg a)
multiple_neg A = record { count = neg A.count; is = omega arith }

pub multiple_sub : {j : ℕ} {a b : Whole} → Multiple j a → Multiple j b → Multiple j (a ⊖ b)
multiple_sub A B = multiple_add A (multiple_neg B)

pub multiple_same : {j : ℕ} {a b : Whole} → a ≈ b → Multiple j a → Multiple j b
multiple_same e A = record { count = A.count; is = omega arith }

pub multiple_finer : {i j : ℕ} {a : Whole} → i ≤ j → Multiple j a → Multiple i a
multiple_finer {i} {j} {a} l A = record { count = 2 ^ (j - i) ⊗ A.count; is = omega (arith, e A.count.up, e A.count.dn) }
  where
    e : (x : ℕ) → 2 ^ i * (2 ^ (j - i) * x) ≡ 2 ^ j * x
    e x = sym (mul_assoc (2 ^ i) (2 ^ (j - i)) x) ∙ ap (λ (y : ℕ). y * x) (mul_comm (2 ^ i) (2 ^ (j - i)) ∙ pow_split l)

pub multiple_one : (a : Whole) → Multiple 0 a
multiple_one a = record { count = a; is = omega arith }

pub multiple_zero : (j : ℕ) → Multiple j (nat 0)
multiple_zero j = record { count = nat 0; is = omega arith }

pub multiple_pow : {i j : ℕ} → i ≤ j → Multiple i (nat (2 ^ j))
multiple_pow {i} {j} l = multiple_finer l (record { count = nat 1; is = omega arith })

-- a multiple of 2 ^ j above 0 is at least 2 ^ j
pub multiple_gap : {j : ℕ} {a : Whole} → Multiple j a → nat 0 ≺ a → nat (2 ^ j) ≼ a
multiple_gap {j} {a} A h = elim (le_or_lt A.count.up A.count.dn) [
  | inl l ↦ omega (arith, mul-le-mul_left (2 ^ j) l)
  | inr l ↦ omega (arith, mul-le-mul_left (2 ^ j) l)
]
