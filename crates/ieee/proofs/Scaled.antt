-- Products that are whole numbers of units, and their differences: in units they are the exact ones, rounded to prec bits. A unit times a unit is 2 ^ -low
-- units, so both are said of 2 ^ low times the units. Nothing reaches 2 ^ emax. Assumes nothing.
use Rattle.std.specs.Prelude.{◌≡◌, refl, Bool, true, false, not, ◌&&◌, ℕ, ◌+◌, ◌*◌, ◌^◌, ◌≤◌, ◌<◌, Float}
use Rattle.std.proofs.Common.{sym, ap, ◌∙◌, inl, inr, mul_comm, mul-lt-mul_of_pos_right, arith, pow-add, pow_pos, pow_mono}
use Rattle.std.proofs.Math.Nat.{le_of_mul-le-mul_left}
use Rattle.std.specs.Float.{Format}
use Rattle.std.specs.Float.Ieee.{prec, emax, low, unlike, sub, mul}
use Rattle.units.specs.Whole.{Whole, ◌⊖◌, ◌⊗◌, ◌⊙◌, ◌≈◌, mag, Within, Multiple, int}
use Rattle.units.specs.Rounding.{fl}
use Rattle.units.proofs.Powers.{le_or_lt, twice_le}
use Rattle.units.proofs.Scaling.{fl_scale}
use Rattle.units.proofs.SignedRounding.{fl_same}
use Rattle.units.proofs.Products.{times_mag, scale_mag}
use Rattle.ieee.specs.Units.{RoundedTo, Number, negative, magnitude, signed_whole, whole, nearest_float}
use Rattle.ieee.proofs.Finite.{facts}
use Rattle.ieee.proofs.Rounded.{prec_pos}
use Rattle.ieee.proofs.Sum.{whole_mag, nearest_at}
use Rattle.ieee.proofs.Product.{mul_whole}
use Rattle.ieee.proofs.InRange.{capped, nearest_rounds, sub_rounds}
use Rattle.ieee.specs.Scaled.{Scaled}

-- the product of two signed numbers of units
signed_times : (s t : Bool) (m n : ℕ) → signed_whole s m ⊙ signed_whole t n ≈ signed_whole (unlike s t) (m * n)
unfolding ◌⊙◌
signed_times false false m n = omega arith
signed_times false true m n = omega arith
signed_times true false m n = omega arith
signed_times true true m n = omega arith

-- ---- 2 ^ low times z units
module _ {f : Format} {x y : Float} (X : Number f x) (Y : Number f y) (z : Whole) (e : whole f x ⊙ whole f y ≈ 2 ^ low f ⊗ z) where
  u : Bool
  u = unlike (negative x) (negative y)

  signed_units : whole f x ⊙ whole f y ≈ signed_whole u (magnitude f x * magnitude f y)
  unfolding whole u
  signed_units = signed_times (negative x) (negative y) (magnitude f x) (magnitude f y)

  exact_units : magnitude f x * magnitude f y ≡ mag z * 2 ^ low f
  exact_units =
      (λ i. sym (whole_mag f x) i * sym (whole_mag f y) i)
      ∙ sym (times_mag (whole f x) (whole f y))
      ∙ same (whole f x ⊙ whole f y) (2 ^ low f ⊗ z) e
      ∙ scale_mag (2 ^ low f) z
      ∙ mul_comm (2 ^ low f) (mag z)
    where
      same : (a b : Whole) → a ≈ b → mag a ≡ mag b
      same a b h = omega arith

  -- so z has the sign of the product
  sign : z ≈ signed_whole u (mag z)
  sign = by u signed_units
    where
      by : (t : Bool) → whole f x ⊙ whole f y ≈ signed_whole t (magnitude f x * magnitude f y) → z ≈ signed_whole t (mag z)
      by false h = elim (le_or_lt z.dn z.up) [
        | inl l ↦ omega arith
        | inr l ↦ absurd (omega (arith, mul-lt-mul_of_pos_right l (pow_pos (low f))))
      ]
      by true h = elim (le_or_lt z.up z.dn) [
        | inl l ↦ omega arith
        | inr l ↦ absurd (omega (arith, mul-lt-mul_of_pos_right l (pow_pos (low f))))
      ]

  pub mul_nearest : mul f x y ≡ nearest_float f (unlike (negative x) (negative y)) (int z)
  unfolding u
  mul_nearest =
      mul_whole f x y (negative x) (negative y) (magnitude f x) (magnitude f y) (mag z) (facts f x X).is (facts f y Y).is exact_units
      ∙ nearest_at f u z u (mag z) sign (λ e. refl)

  pub mul_rounds : (k : ℕ) → k ≤ low f + emax f → Within z (2 ^ k) → RoundedTo f (unlike (negative x) (negative y)) z (mul f x y)
  mul_rounds k K h = rw mul_nearest (nearest_rounds f k K (unlike (negative x) (negative y)) z h)

-- a bound on 2 ^ k times z is one on z
unscaled : (f : Format) (k m : ℕ) (z : Whole) → m ≤ k + (low f + emax f) → Within (2 ^ k ⊗ z) (2 ^ m) → Within z (2 ^ (low f + emax f))
unscaled f k m z r h = (part z.up z.dn h.0, part z.dn z.up h.1)
  where
    top : 2 ^ m ≤ 2 ^ k * 2 ^ (low f + emax f)
    top = rw (← (pow-add 2 k (low f + emax f))) (pow_mono r)

    part : (a b : ℕ) → 2 ^ k * a ≤ 2 ^ k * b + 2 ^ m → a ≤ b + 2 ^ (low f + emax f)
    part a b l = le_of_mul-le-mul_left {k = 2 ^ k} (omega (arith, top)) (pow_pos k)

module _ {f : Format} where
  pub mul_scaled : {x y : Float} (m : ℕ) → Number f x → Number f y → m ≤ low f + (low f + emax f) → Multiple (low f) (whole f x ⊙ whole f y)
      → Within (whole f x ⊙ whole f y) (2 ^ m) → Scaled f (low f) m (fl (prec f) (whole f x ⊙ whole f y)) (mul f x y)
  mul_scaled {x} {y} m X Y r M h = record {
    number = R.number;
    units =
        ap (λ (w : Whole). 2 ^ low f ⊗ w) R.units
        ∙ sym (fl_scale (prec f) (prec_pos f) M.count (low f))
        ∙ fl_same (prec f) (2 ^ low f ⊗ M.count) (whole f x ⊙ whole f y) (sym M.is);
    small = capped f (whole f x ⊙ whole f y) m h;
  }
    where
      R : RoundedTo f (unlike (negative x) (negative y)) M.count (mul f x y)
      R = mul_rounds X Y M.count M.is (low f + emax f) (omega arith) (unscaled f (low f) m M.count r (omega (arith, M.is)))

  pub sub_scaled : {k i j m : ℕ} {a b : Whole} {x y : Float} → i < m → j < m → m ≤ k + (low f + emax f) → Scaled f k i a x → Scaled f k j b y
      → Scaled f k m (fl (prec f) (a ⊖ b)) (sub f x y)
  sub_scaled {k} {i} {j} {m} {a} {b} {x} {y} g h r A B = record {
    number = R.number;
    units =
        ap (λ (w : Whole). 2 ^ k ⊗ w) R.units
        ∙ sym (fl_scale (prec f) (prec_pos f) (whole f x ⊖ whole f y) k)
        ∙ fl_same (prec f) (2 ^ k ⊗ (whole f x ⊖ whole f y)) (a ⊖ b) same;
    small = capped f (a ⊖ b) m small;
  }
    where
      same : 2 ^ k ⊗ (whole f x ⊖ whole f y) ≈ a ⊖ b
      same = rw (← A.units, ← B.units) (omega arith)

      small : Within (a ⊖ b) (2 ^ m)
      small = omega (arith, A.small, B.small, twice_le g, twice_le h)

      R : RoundedTo f (negative x && not (negative y)) (whole f x ⊖ whole f y) (sub f x y)
      R = sub_rounds A.number B.number (low f + emax f) (omega arith) (unscaled f k m (whole f x ⊖ whole f y) r (omega (arith, small, same)))
