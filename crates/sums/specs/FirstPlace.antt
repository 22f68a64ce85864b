-- A number's rounding and the rounding of what is left of it do not overlap: document 000's Definition 5.1, by the unit in the first place. Assumes nothing.
use Rattle.std.specs.Prelude.{◌≡◌, ◌⊎◌, ℕ, zero, suc, ◌+◌, ◌-◌, ◌*◌, ◌^◌, ◌≤◌, ◌<◌}
use Rattle.std.proofs.Common.{sym, ap, inl, inr, eq-zero-or-pos, mul-le-mul_left, mul-le-mul_right, arith, pow-add, pow_pos, pow_mono}
use Rattle.std.specs.Float.Ieee.{size}
use Rattle.std.specs.Float.Ieee.Digits.{size_reaches}
use Rattle.units.specs.Whole.{Whole, ◌⊖◌, ◌⊗◌, Within, mag}
use Rattle.units.specs.Rounding.{dropped, ufp, fl}
use Rattle.units.proofs.Powers.{pow_pred}
use Rattle.units.proofs.Ceiling.{size_gt}
use Rattle.units.proofs.NaturalRounding.{dropped_lt, reach}
use Rattle.units.proofs.SignedRounding.{rep_zero, rep_pow, fl_half, fl_mag, fl_within}

pub ufp_le : (n : ℕ) → ufp n ≤ n
unfolding ufp
ufp_le zero = omega arith
ufp_le (suc n) = size_reaches (suc n) (size (suc n) - 1) (omega (arith, size_gt (suc n) 0 (omega arith)))

-- it is at least each power of two that n reaches
pub ufp_ge : (n j : ℕ) → 2 ^ j ≤ n → 2 ^ j ≤ ufp n
unfolding ufp
ufp_ge zero j h = omega (arith, pow_pos j)
ufp_ge (suc n) j h = let l : j ≤ size (suc n) - 1 = omega (arith, size_gt (suc n) j h) in pow_mono l

module _ (p : ℕ) (P : 0 < p) where
  -- x is S rounded and y is what is left, rounded: y is 0, or no larger than x and 2 ^ p ufp y < 2 ufp x
  pub rounding_apart : (S : Whole) → let x = fl p S in let y = fl p (S ⊖ x) in (mag y ≡ 0) ⊎ ((mag y ≤ mag x) × (2 ^ p * ufp (mag y) < 2 * ufp (mag x)))
  rounding_apart S = elim (eq-zero-or-pos k) [ inl z ↦ inl (nothing z) | inr h ↦ inr (apart h) ]
    where
      k : ℕ
      k = dropped p (mag S)

      r : Whole
      r = S ⊖ fl p S

      half : Within (2 ⊗ (fl p S ⊖ S)) (2 ^ k)
      half = fl_half p P S k (omega (arith, dropped_lt p (mag S)))

      nothing : k ≡ 0 → mag (fl p r) ≡ 0
      nothing z =
          let h : Within (2 ⊗ (fl p S ⊖ S)) (2 ^ 0) = rw z at half in
          let w : Within r 0 = omega arith in
          omega (arith, fl_within p P r (rep_zero p) w)

      apart : 0 < k → (mag (fl p r) ≤ mag (fl p S)) × (2 ^ p * ufp (mag (fl p r)) < 2 * ufp (mag (fl p S)))
      apart h = (omega (arith, small, large, powers), omega (arith, mul-le-mul_left (2 ^ p) below, above, powers))
        where
          last : 2 * 2 ^ (k - 1) ≡ 2 ^ k
          last = pow_pred h

          first : 2 * 2 ^ (p - 1 + k) ≡ 2 ^ p * 2 ^ k
          first = rw (pow-add 2 (p - 1) k) (omega (arith, ap (λ (x : ℕ). x * 2 ^ k) (pow_pred P)))

          small : mag (fl p r) ≤ 2 ^ (k - 1)
          small = omega (arith, fl_within p P r (rep_pow p (k - 1)) (omega (arith, half, last)))

          large : 2 ^ (p - 1 + k) ≤ mag (fl p S)
          large = rw (fl_mag p P S) (omega (arith, first, (reach p P (mag S) h).1))

          below : ufp (mag (fl p r)) ≤ 2 ^ (k - 1)
          below = omega (arith, ufp_le (mag (fl p r)), small)

          above : 2 ^ (p - 1 + k) ≤ ufp (mag (fl p S))
          above = ufp_ge (mag (fl p S)) (p - 1 + k) large

          powers : (2 ^ p * (2 * 2 ^ (k - 1)) ≡ 2 * 2 ^ (p - 1 + k)) × (1 * 2 ^ (k - 1) ≤ 2 ^ p * 2 ^ (k - 1)) × (0 < 2 ^ (k - 1))
          powers = (rw last (sym first), mul-le-mul_right (2 ^ (k - 1)) (pow_pos p), pow_pos (k - 1))
