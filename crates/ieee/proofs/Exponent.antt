-- The exponent of the least power of two at or above a pattern's magnitude, read off its field and its digits; and the patterns of powers of two.
-- r is a pattern without its sign, r / hid f is its field and r % hid f its digits. Assumes nothing.
use Rattle.std.specs.Prelude.{◌≡◌, false, ℕ, suc, ◌+◌, ◌-◌, ◌*◌, ◌/◌, ◌%◌, ◌^◌, ◌<◌}
use Rattle.std.proofs.Common.{sym, ap, ◌∙◌, mul-div_cancel, mul-lt-mul_of_pos_right, mod-lt, arith, pow_pos}
use Rattle.std.proofs.Math.Nat.{add-zero, mul-mod_left, div-eq_of_lt, mod-eq_of_lt, pow-succ'}
use Rattle.std.proofs.Math.Pow.{pow-add}
use Rattle.std.specs.Float.{Format}
use Rattle.std.specs.Float.Ieee.{prec, hid, ones, of_bits}
use Rattle.units.specs.Rounding.{ceil}
use Rattle.units.proofs.CeilingLaws.{ceil_at, ceil_power}
use Rattle.ieee.specs.Units.{Is, pattern_units}
use Rattle.ieee.proofs.Pattern.{pattern_positive}

module _ (f : Format) where
  -- ---- a field of 0: the digits are the units
  pub subnormal_units : {r : ℕ} → r < hid f → pattern_units f r ≡ r
  unfolding pattern_units
  subnormal_units h = rw (div-eq_of_lt h, mod-eq_of_lt h)

  pub subnormal_pattern : {r : ℕ} → r < hid f → Is f (of_bits f r) false r
  subnormal_pattern {r} h = rw (subnormal_units h) at (pattern_positive f r (omega arith))

  -- ---- a field of suc x: a power of two where no digit is set, and else between that power and the next
  module _ (r x : ℕ) (e : r / hid f ≡ suc x) where
    power_units : r % hid f ≡ 0 → pattern_units f r ≡ 2 ^ (prec f - 1 + x)
    unfolding pattern_units
    power_units d = rw (e, d, add-zero (hid f)) (sym (pow-add 2 (prec f - 1) x))

    pub exponent_power : r % hid f ≡ 0 → ceil (pattern_units f r) ≡ prec f - 1 + x
    exponent_power d = ap ceil (power_units d) ∙ ceil_power (prec f - 1 + x)

    pub exponent_between : 0 < r % hid f → ceil (pattern_units f r) ≡ suc (prec f - 1 + x)
    unfolding pattern_units
    exponent_between d = rw e (ceil_at (prec f - 1 + x) (rw split (omega (arith, over))) (rw (pow-succ' 2 (prec f - 1 + x), split) (omega (arith, under))))
      where
        split : 2 ^ (prec f - 1 + x) ≡ hid f * 2 ^ x
        split = pow-add 2 (prec f - 1) x

        over : 0 * 2 ^ x < r % hid f * 2 ^ x
        over = mul-lt-mul_of_pos_right d (pow_pos x)

        under : r % hid f * 2 ^ x < hid f * 2 ^ x
        under = mul-lt-mul_of_pos_right (mod-lt r (pow_pos (prec f - 1))) (pow_pos x)

  pub power_pattern : (x : ℕ) → suc x < ones f → Is f (of_bits f (suc x * hid f)) false (2 ^ (prec f - 1 + x))
  power_pattern x h = rw units at (pattern_positive f (suc x * hid f) (mul-lt-mul_of_pos_right h (pow_pos (prec f - 1))))
    where
      units : pattern_units f (suc x * hid f) ≡ 2 ^ (prec f - 1 + x)
      units = power_units (suc x * hid f) x (mul-div_cancel (suc x) (pow_pos (prec f - 1))) (mul-mod_left (suc x) (hid f))
