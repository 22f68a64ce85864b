-- The final estimate in naturals. Assumes nothing.
use Rattle.std.specs.Prelude.{◌≡◌, ℕ, suc, ◌+◌, ◌-◌, ◌*◌, ◌≤◌, ◌<◌}
use Rattle.std.proofs.Common.{mul-le-mul_right, mul-le-mul}
use Rattle.std.proofs.Math.Logic.{inl, inr}
use Rattle.std.proofs.Math.Nat.{le_dest, le_of_mul-le-mul_left, mul-sub}
use native.Mathlib.Omega.{arith}
use Rattle.units.proofs.Powers.{le_or_lt}

-- ---- in naturals: A = |tau1|, a = |tau2|, d2 and d1 the errors of the last two sums, R the size of the exact last sum and F that of its rounding,
-- d all of the error but d1. Q stands for 2 ^ p.
module _ (Q N g n A a d d1 d2 R F : ℕ) (few : n + 2 ≤ N) (many : 3 ≤ N) (room : 2 * (N * N) ≤ Q) (g⁺ : 0 < g)
    (big : 2 * (N * N * g) ≤ A) (low : Q * a ≤ A) (lost : Q * d ≤ a + n * g + n * n * g) (lost2 : Q * d2 ≤ a + n * g)
    (lost1 : Q * d1 ≤ R) (r⁻ : A ≤ R + (a + n * g + d2)) (r⁺ : R ≤ A + (a + n * g + d2)) (f : R ≤ F + d1)
  where
    -- the squares of N and n, times g
    squares : 2 * (n * n * g) + 2 * (n * g) + 6 * (N * g) ≤ 2 * (N * N * g) + 4 * g
    squares = let k = le_dest few in rw (← k.1) (of k.0)
      where
        of : (u : ℕ) → 2 * (n * n * g) + 2 * (n * g) + 6 * ((n + 2 + u) * g) ≤ 2 * ((n + 2 + u) * (n + 2 + u) * g) + 4 * g
        of u = omega arith

    lines : (n * g + 2 * g ≤ N * g) × (3 * g ≤ N * g) × (3 * (N * g) ≤ N * N * g) × (2 * (N * N * g) ≤ Q * g)
    lines = (
      omega (arith, mul-le-mul_right g few),
      mul-le-mul_right g many,
      omega (arith, mul-le-mul_right (N * g) many),
      omega (arith, mul-le-mul_right g room),
    )

    times : (z : ℕ) → 18 * z ≤ Q * z
    times z = mul-le-mul_right z (omega (arith, mul-le-mul many many))

    over : ℕ
    over = a - g

    -- a is at most g, and a part of what A has beyond its least
    small_a : (a ≤ g + over) × (Q * over + 2 * (N * N * g) ≤ A)
    unfolding over
    small_a = (omega arith, elim (le_or_lt a g) [ inl l ↦ let z : a - g ≡ 0 = omega arith in rw z (omega arith) | inr l ↦ omega (arith, mul-sub Q a g, lines) ])

    small_d : 2 * d ≤ g + over
    small_d = le_of_mul-le-mul_left {k = Q} (omega (arith, small_a, squares, lines, times over, lost)) (omega (arith, mul-le-mul many many))

    small_d2 : d2 ≤ g + over
    small_d2 = le_of_mul-le-mul_left {k = Q} (omega (arith, small_a, lines, times over, lost2)) (omega (arith, mul-le-mul many many))

    small_d1 : 18 * (d1 - 2 * g) + 2 * (N * N * g) ≤ A + 2 * over
    small_d1 = elim (le_or_lt d1 (2 * g)) [
      | inl l ↦ omega arith
      | inr l ↦ omega (arith, mul-sub Q d1 (2 * g), times (d1 - 2 * g), small_a, small_d2, lines, lost1, r⁺)
    ]

    pub budget : suc Q * (2 * d) < F
    budget = omega (arith, squares, lines, small_a, times over, small_d, small_d2, small_d1, lost, r⁻, f, g⁺, big)
