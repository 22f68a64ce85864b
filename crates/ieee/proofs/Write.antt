-- The pattern of a rounded number of units: the digits dropped, times the weight of the exponent's field, plus the rounded quotient. A quotient that rounds
-- up to 2 ^ prec makes the exponent's field come out right by itself. Assumes nothing.
use Rattle.std.specs.Prelude.{◌≡◌, ◌⊎◌, ℕ, suc, ◌+◌, ◌-◌, ◌*◌, ◌/◌, ◌^◌, ◌≤◌, ◌<◌}
use Rattle.std.proofs.Common.{ap, ◌∙◌, inl, inr, zero-le, le_antisymm, eq-or-lt_of_le, eq-zero-or-pos, mul-div_cancel, mul-lt-mul_of_pos_right}
use Rattle.std.proofs.Common.{arith, pow_pos}
use Rattle.std.proofs.Math.Nat.{pow-succ'}
use Rattle.std.specs.Float.Ieee.Nearest.{closest}
use Rattle.units.specs.Rounding.{dropped, rnd}
use Rattle.units.proofs.Powers.{pow_pred}
use Rattle.units.proofs.NaturalRounding.{dropped_le, dropped_ge, rnd_is, rnd_kept, reach}

-- the exponent's field and the digits of the magnitude m at p bits, in one number
abbrev fields : ℕ → ℕ → ℕ
fields p m = dropped p m * 2 ^ (p - 1) + m / 2 ^ dropped p m

module _ (p : ℕ) (P : 0 < p) where
  fields_at : (m j w : ℕ) → m ≡ w * 2 ^ j → w < 2 ^ p → j ≤ dropped p m → fields p m ≡ j * 2 ^ (p - 1) + w
  fields_at m j w e l g = ap (λ (i : ℕ). i * 2 ^ (p - 1) + m / 2 ^ i) d ∙ rw (e, mul-div_cancel w (pow_pos j))
    where
      d : dropped p m ≡ j
      d = le_antisymm (dropped_le p m (rw e (mul-lt-mul_of_pos_right l (pow_pos j)))) g

  pub fields_rounded : (n : ℕ) → fields p (rnd p n) ≡ dropped p n * 2 ^ (p - 1) + closest n (2 ^ dropped p n)
  fields_rounded n = elim (eq-or-lt_of_le (rnd_kept p n)) [
    | inl e ↦ full e
    | inr l ↦ fields_at (rnd p n) k (closest n (2 ^ k)) (rnd_is p n) l (below (eq-zero-or-pos k))
  ]
    where
      k : ℕ
      k = dropped p n

      below : (k ≡ 0) ⊎ (0 < k) → k ≤ dropped p (rnd p n)
      below (inl z) = rw z zero-le
      below (inr h) = dropped_ge p (rnd p n) (reach p P n h).1

      -- the quotient 2 ^ p: one digit more is dropped
      full : closest n (2 ^ k) ≡ 2 ^ p → fields p (rnd p n) ≡ k * 2 ^ (p - 1) + closest n (2 ^ k)
      full e = fields_at (rnd p n) (suc k) (2 ^ (p - 1)) whole (omega (arith, half, pow_pos (p - 1))) (dropped_ge p (rnd p n) next) ∙ omega (arith, half)
        where
          half : 2 * 2 ^ (p - 1) ≡ 2 ^ p
          half = pow_pred P

          exact : rnd p n ≡ 2 ^ p * 2 ^ k
          exact = rnd_is p n ∙ ap (λ (x : ℕ). x * 2 ^ k) e

          whole : rnd p n ≡ 2 ^ (p - 1) * 2 ^ suc k
          whole = rw (pow-succ' 2 k) (omega (arith, exact, ap (λ (x : ℕ). x * 2 ^ k) half))

          next : 2 ^ p * 2 ^ suc k ≤ 2 * rnd p n
          next = rw (pow-succ' 2 k) (omega (arith, exact))
