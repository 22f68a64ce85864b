-- The error-free product: of two factors that are far enough from underflow and overflow, Algorithm 1.1 gives the rounded product and its error, both numbers
-- of the format, whose sum is the exact product; the error is no larger than 2 ^ -prec times the product. Assumes nothing.
use Rattle.std.specs.Prelude.{◌≡◌, ℕ, suc, ◌+◌, ◌-◌, ◌*◌, ◌^◌, ◌≤◌, pos, ◌+ℤ◌, ◌*ℤ◌, Float}
use Rattle.std.proofs.Math.Path.{sym}
use Rattle.std.proofs.Common.{ap, ◌∙◌, le_trans, mul-le-mul_right, mul_comm, arith, pow-add, pow_pos, pow_mono}
use Rattle.std.proofs.Math.Nat.{le_of_mul-le-mul_left}
use Rattle.std.specs.Float.{Format}
use Rattle.std.specs.Float.Ieee.{prec, low, mul}
use Rattle.units.specs.Whole.{Whole, nat, ◌⊕◌, ◌⊖◌, ◌⊗◌, ◌⊙◌, ◌≈◌, mag, Within, Multiple, int}
use Rattle.units.specs.Rounding.{fl}
use Rattle.units.proofs.Powers.{pow_split, pow_le_back}
use Rattle.units.proofs.Multiples.{multiple_finer}
use Rattle.units.proofs.SignedRounding.{fl_relative_result}
use Rattle.units.proofs.Integers.{int_same, int_plus, int_difference}
use Rattle.units.proofs.Products.{nat_times, times_multiple, times_within, scale_mag, int_times}
use Rattle.units.specs.TwoProduct as Units
use Rattle.units.proofs.TwoProduct.{two_product as units_two_product}
use Rattle.ieee.specs.Units.{Between, Number, magnitude, value, whole}
use Rattle.ieee.specs.ErrorFree.{half_prec, upper_half, lower_half, product_error, ErrorFree, Room}
use Rattle.ieee.proofs.Rounded.{prec_pos}
use Rattle.ieee.proofs.Sum.{value_int, whole_mag}
use Rattle.ieee.proofs.InRange.{capped}
use Rattle.ieee.specs.Scaled.{Scaled}
use Rattle.ieee.proofs.Scaled.{mul_scaled, sub_scaled}
use Rattle.ieee.specs.Split.{last_place}
use Rattle.ieee.proofs.Split.{half_least, half_most, half_less, place_least, last_place_lem, halves}
use Rattle.ieee.proofs.Split.{upper_number, lower_number, upper_small, lower_small}

same : (u v : Whole) → u ≡ v → u ≈ v
same u v e = rw e

module _ {f : Format} {l h : ℕ} {a b : Float} (R : Room f l h) (A : Between f l h a) (B : Between f l h b) where
  -- ---- every product that the algorithm forms comes to whole units, and none passes 2 ^ (2 h + 2) units of a unit
  product : {x y : Float} → Number f x → Number f y → Multiple (last_place f a) (whole f x) → Multiple (last_place f b) (whole f y)
      → Within (whole f x) (2 ^ suc h) → Within (whole f y) (2 ^ suc h) → Scaled f (low f) (2 * h + 2) (fl (prec f) (whole f x ⊙ whole f y)) (mul f x y)
  product {x} {y} X Y I J u v = mul_scaled (2 * h + 2) X Y (omega (arith, R.below)) (multiple_finer places (times_multiple I J)) (rw size small)
    where
      places : low f ≤ last_place f a + last_place f b
      places = omega (arith, R.above, place_least R A, place_least R B)

      size : 2 ^ (2 * h + 2) ≡ 2 ^ suc h * 2 ^ suc h
      size = ap (λ (n : ℕ). 2 ^ n) (omega arith) ∙ pow-add 2 (suc h) (suc h)

      small : Within (whole f x ⊙ whole f y) (2 ^ suc h * 2 ^ suc h)
      small = times_within (whole f x) (whole f y) (2 ^ suc h) (2 ^ suc h) u v

  full : {c : Float} → Between f l h c → Within (whole f c) (2 ^ suc h)
  full {c} C = omega (arith, whole_mag f c, C.most, pow_mono {i = h} {j = suc h} (omega arith))

  rounded : Scaled f (low f) (2 * h + 2) (fl (prec f) (whole f a ⊙ whole f b)) (mul f a b)
  rounded = product A.number B.number (last_place_lem R A).on (last_place_lem R B).on (full A) (full B)

  -- what the algorithm computes for the error, in units of a unit
  computed : Whole
  computed =
      Units.product_error (prec f) (whole f a) (whole f b)
      (whole f (upper_half f a)) (whole f (lower_half f a)) (whole f (upper_half f b)) (whole f (lower_half f b))

  error : Scaled f (low f) (2 * h + 6) computed (product_error f a b)
  unfolding computed product_error
  error =
      let first = sub_scaled {m = 2 * h + 3} (omega arith) (omega arith) (omega (arith, R.below)) rounded upper_upper in
      let second = sub_scaled {m = 2 * h + 4} (omega arith) (omega arith) (omega (arith, R.below)) first lower_upper in
      let third = sub_scaled {m = 2 * h + 5} (omega arith) (omega arith) (omega (arith, R.below)) second upper_lower in
      sub_scaled (omega arith) (omega arith) (omega (arith, R.below)) lower_lower third
    where
      upper_on : {c : Float} (C : Between f l h c) → Multiple (last_place f c) (whole f (upper_half f c))
      upper_on C = multiple_finer (omega arith) (halves R C).upper_on

      upper_upper : Scaled f (low f) (2 * h + 2) (fl (prec f) (whole f (upper_half f a) ⊙ whole f (upper_half f b))) (mul f (upper_half f a) (upper_half f b))
      upper_upper = product (upper_number R A) (upper_number R B) (upper_on A) (upper_on B) (upper_small R A) (upper_small R B)

      lower_upper : Scaled f (low f) (2 * h + 2) (fl (prec f) (whole f (lower_half f a) ⊙ whole f (upper_half f b))) (mul f (lower_half f a) (upper_half f b))
      lower_upper = product (lower_number R A) (upper_number R B) (halves R A).lower_on (upper_on B) (lower_small R A) (upper_small R B)

      upper_lower : Scaled f (low f) (2 * h + 2) (fl (prec f) (whole f (upper_half f a) ⊙ whole f (lower_half f b))) (mul f (upper_half f a) (lower_half f b))
      upper_lower = product (upper_number R A) (lower_number R B) (upper_on A) (halves R B).lower_on (upper_small R A) (lower_small R B)

      lower_lower : Scaled f (low f) (2 * h + 2) (fl (prec f) (whole f (lower_half f a) ⊙ whole f (lower_half f b))) (mul f (lower_half f a) (lower_half f b))
      lower_lower = product (lower_number R A) (lower_number R B) (halves R A).lower_on (halves R B).lower_on (lower_small R A) (lower_small R B)

  -- ---- x + y is the product, 2 ^ low times over
  x_units : 2 ^ low f ⊗ whole f (mul f a b) ≈ fl (prec f) (whole f a ⊙ whole f b)
  x_units = same (2 ^ low f ⊗ whole f (mul f a b)) (fl (prec f) (whole f a ⊙ whole f b)) rounded.units

  product_sum : 2 ^ low f ⊗ (whole f (mul f a b) ⊕ whole f (product_error f a b)) ≈ whole f a ⊙ whole f b
  unfolding computed
  product_sum = omega (arith, x_units, y_units, computed_is)
    where
      y_units : 2 ^ low f ⊗ whole f (product_error f a b) ≈ computed
      y_units = same (2 ^ low f ⊗ whole f (product_error f a b)) computed error.units

      computed_is : computed ≈ whole f a ⊙ whole f b ⊖ fl (prec f) (whole f a ⊙ whole f b)
      computed_is =
          units_two_product (prec f) (half_prec f) (last_place f a) (last_place f b) (half_least f) (half_most f) (half_less f)
          (last_place_lem R A) (last_place_lem R B) (halves R A) (halves R B)

  sum : Whole
  sum = whole f (mul f a b) ⊕ whole f (product_error f a b)

  sum_value : value f (mul f a b) +ℤ value f (product_error f a b) ≡ int sum
  unfolding sum
  sum_value =
      (λ i. value_int f (mul f a b) i +ℤ value_int f (product_error f a b) i)
      ∙ sym (int_plus (whole f (mul f a b)) (whole f (product_error f a b)))

  pub two_product : ErrorFree f a b (mul f a b) (product_error f a b)
  unfolding sum
  two_product = record {
    rounded = rounded.number;
    error = error.number;
    exact =
        (λ i. sym (int_difference (pos (2 ^ low f))) i *ℤ sum_value i)
        ∙ sym (int_times (nat (2 ^ low f)) sum)
        ∙ int_same (nat (2 ^ low f) ⊙ sum) (whole f a ⊙ whole f b) (omega (arith, nat_times (2 ^ low f) sum, product_sum))
        ∙ int_times (whole f a) (whole f b)
        ∙ (λ i. sym (value_int f a) i *ℤ sym (value_int f b) i);
  }

  -- ---- bounds: 2 ^ low times a magnitude is the magnitude of 2 ^ low times the units
  scaled_mag : (x : Float) → mag (2 ^ low f ⊗ whole f x) ≡ 2 ^ low f * magnitude f x
  scaled_mag x = scale_mag (2 ^ low f) (whole f x) ∙ ap (λ (n : ℕ). 2 ^ low f * n) (whole_mag f x)

  pub product_small : magnitude f (mul f a b) ≤ 2 ^ (2 * h - low f)
  product_small =
      le_of_mul-le-mul_left {k = 2 ^ low f}
      (rw (← (scaled_mag (mul f a b)), mul_comm (2 ^ low f) (2 ^ (2 * h - low f)), pow_split wide) (omega (arith, x_units, small)))
      (pow_pos (low f))
    where
      wide : low f ≤ 2 * h
      wide = omega (arith, R.above, prec_pos f, pow_le_back l h (le_trans A.least A.most))

      size : 2 ^ (2 * h) ≡ 2 ^ h * 2 ^ h
      size = ap (λ (n : ℕ). 2 ^ n) (omega arith) ∙ pow-add 2 h h

      within : {c : Float} → Between f l h c → Within (whole f c) (2 ^ h)
      within {c} C = omega (arith, whole_mag f c, C.most)

      small : Within (fl (prec f) (whole f a ⊙ whole f b)) (2 ^ (2 * h))
      small =
          capped f (whole f a ⊙ whole f b) (2 * h)
          (rw size (times_within (whole f a) (whole f b) (2 ^ h) (2 ^ h) (within A) (within B)))

  pub error_small : 2 ^ prec f * magnitude f (product_error f a b) ≤ magnitude f (mul f a b)
  error_small =
      le_of_mul-le-mul_left {k = 2 ^ low f}
      (omega (arith, scaled_mag (mul f a b), ap (λ (n : ℕ). 2 ^ prec f * n) (scaled_mag (product_error f a b)), small))
      (pow_pos (low f))
    where
      z : Whole
      z = whole f a ⊙ whole f b

      error_mag : mag (2 ^ low f ⊗ whole f (product_error f a b)) ≡ mag (fl (prec f) z ⊖ z)
      error_mag = omega (arith, product_sum, x_units)

      relative : Within (2 ^ prec f ⊗ (fl (prec f) z ⊖ z)) (mag (2 ^ low f ⊗ whole f (mul f a b)))
      relative = fl_relative_result (prec f) (prec_pos f) z (mag (2 ^ low f ⊗ whole f (mul f a b))) (omega (arith, x_units))

      small : 2 ^ prec f * mag (2 ^ low f ⊗ whole f (product_error f a b)) ≤ mag (2 ^ low f ⊗ whole f (mul f a b))
      small = rw (error_mag, ← (scale_mag (2 ^ prec f) (fl (prec f) z ⊖ z))) (omega (arith, relative))

  pub error_smaller : magnitude f (product_error f a b) ≤ 2 ^ (2 * h - low f)
  error_smaller = omega (arith, error_small, product_small, mul-le-mul_right (magnitude f (product_error f a b)) (pow_pos (prec f)))
