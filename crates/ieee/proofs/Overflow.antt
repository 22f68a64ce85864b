-- The float nearest to S units is finite exactly below the format's limit, and then it is S rounded to prec bits, with the sign of S. Assumes nothing.
use Rattle.std.specs.Prelude.{◌≡◌, Bool, true, false, ℕ, zero, suc, ◌+◌, ◌-◌, ◌*◌, ◌^◌, ◌≤◌, ◌<◌, ℤ, pos, negsuc, nat_abs, T, ltb}
use Rattle.std.proofs.Math.Path.{refl}
use Rattle.std.proofs.Common.{sym, ap, ◌∙◌, inl, inr, add-suc, arith, lt→ltb, pow-add, pow_mono}
use Rattle.std.proofs.Math.Nat.{pow-succ'}
use Rattle.std.proofs.Math.Arith.{le→nltb}
use Rattle.std.proofs.Math.Pow.{pow-lt}
use Rattle.std.specs.Float.{Format}
use Rattle.std.specs.Float.Ieee.{prec, emax, low, round, fits}
use Rattle.std.specs.Float.Ieee.Fits.{two, reach, round-fits}
use Rattle.std.specs.Float.Ieee.Bits.{is_true, is_false}
use Rattle.std.specs.Float.Ieee.Scale.{finite, overflow}
use Rattle.units.specs.Whole as W
use Rattle.units.specs.Whole.{nat, difference}
use Rattle.units.specs.Rounding.{rnd, fl}
use Rattle.units.proofs.Powers.{le_or_lt}
use Rattle.units.proofs.NaturalRounding.{rnd_zero}
use Rattle.units.proofs.SignedRounding.{fl_nat, fl_neg}
use Rattle.units.proofs.Threshold.{rnd_stays, rnd_reaches}
use Rattle.ieee.specs.Units.{Is, negative, magnitude, signed_whole, whole, sign_of, nearest_float, limit}
use Rattle.ieee.proofs.Finite.{is_units, is_finite}
use Rattle.ieee.proofs.Rounded.{prec_pos, round_value, round_overflow}

module _ (f : Format) where
  h : ℕ
  h = low f + emax f - prec f

  -- 2 ^ (emax + 1) is a power of two with half a place below it
  digits : low f + suc (emax f) ≡ prec f + suc h
  unfolding h
  digits = omega (arith, two f, reach f)

  overflow_is : overflow f ≡ 2 ^ prec f * 2 ^ suc h
  overflow_is = ap (λ (x : ℕ). 2 ^ x) digits ∙ pow-add 2 (prec f) (suc h)

  pub rnd_finite : {n : ℕ} → n < limit f → rnd (prec f) n < overflow f
  unfolding h
  rnd_finite {n} l = rw overflow_is (rnd_stays (prec f) (prec_pos f) h n (omega (arith, overflow_is)))

  pub rnd_overflows : {n : ℕ} → limit f ≤ n → overflow f ≤ rnd (prec f) n
  unfolding h
  rnd_overflows {n} l = rw overflow_is (rnd_reaches (prec f) (prec_pos f) h n (omega (arith, overflow_is)))

  -- 2 ^ emax is below the limit, and so is every lower power of two
  pub power_below : {k : ℕ} → k ≤ low f + emax f → 2 ^ k < limit f
  power_below {k} l = omega (arith, pow_mono l, pow-lt lower, twice)
    where
      lower : low f + emax f - prec f < low f + emax f
      lower = omega (arith, two f, reach f)

      twice : overflow f ≡ 2 * 2 ^ (low f + emax f)
      twice = ap (λ (x : ℕ). 2 ^ x) (add-suc (low f) (emax f)) ∙ pow-succ' 2 (low f + emax f)

  module _ (z : Bool) (S : ℤ) where
    pub nearest_round : nearest_float f z S ≡ round f (sign_of z S) (nat_abs S) (2 ^ low f)
    unfolding nearest_float
    nearest_round = refl

    pub nearest_fits : T (fits f (nearest_float f z S))
    nearest_fits = rw nearest_round (round-fits f (sign_of z S) (nat_abs S) (2 ^ low f))

    pub nearest_is : nat_abs S < limit f → Is f (nearest_float f z S) (sign_of z S) (rnd (prec f) (nat_abs S))
    nearest_is l = rw nearest_round (round_value f (sign_of z S) (nat_abs S) (rnd_finite l))

    -- it is finite exactly below the limit
    pub nearest_finite : finite (nearest_float f z S) ≡ ltb (nat_abs S) (limit f)
    nearest_finite = elim (le_or_lt (limit f) (nat_abs S)) [
      | inl l ↦
          ap finite (nearest_round ∙ round_overflow f (sign_of z S) (nat_abs S) (rnd_overflows l))
          ∙ sym (is_false (ltb (nat_abs S) (limit f)) (le→nltb (nat_abs S) (limit f) l))
      | inr l ↦
          is_true (finite (nearest_float f z S)) (is_finite f (nearest_float f z S) (sign_of z S) (rnd (prec f) (nat_abs S)) (nearest_is l))
          ∙ sym (is_true (ltb (nat_abs S) (limit f)) (lt→ltb (nat_abs S) (limit f) l))
    ]

    -- a zero has the sign z, and every other number its own
    pub nearest_negative : nat_abs S < limit f → negative (nearest_float f z S) ≡ sign_of z S
    nearest_negative l = (is_units f (nearest_float f z S) (sign_of z S) (rnd (prec f) (nat_abs S)) (nearest_is l)).0

    pub nearest_whole : nat_abs S < limit f → whole f (nearest_float f z S) ≡ fl (prec f) (difference S)
    unfolding whole
    nearest_whole l = (λ i. signed_whole (u.0 i) (u.1 i)) ∙ rounded z S
      where
        u : (negative (nearest_float f z S) ≡ sign_of z S) × (magnitude f (nearest_float f z S) ≡ rnd (prec f) (nat_abs S))
        u = is_units f (nearest_float f z S) (sign_of z S) (rnd (prec f) (nat_abs S)) (nearest_is l)

        none : (z : Bool) (n : ℕ) → n ≡ 0 → signed_whole z n ≡ nat n
        none false n e = refl
        none true n e = rw e

        rounded : (z : Bool) (S : ℤ) → signed_whole (sign_of z S) (rnd (prec f) (nat_abs S)) ≡ fl (prec f) (difference S)
        rounded z (pos zero) = none z (rnd (prec f) 0) (rnd_zero (prec f) (prec_pos f)) ∙ sym (fl_nat (prec f) (prec_pos f) 0)
        rounded z (pos (suc n)) = sym (fl_nat (prec f) (prec_pos f) (suc n))
        rounded z (negsuc n) = ap W.neg (sym (fl_nat (prec f) (prec_pos f) (suc n))) ∙ sym (fl_neg (prec f) (nat (suc n)))
