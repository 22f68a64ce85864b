-- The float that is 2^k units: its sign and its units, that it is a number of the format, which pattern it has, and that no other number of the format is
-- 2^k units. Assumes nothing.
use Rattle.std.specs.Prelude.{◌≡◌, Bool, pos, Float}
use Rattle.std.proofs.Math.Path.{refl}
use Rattle.std.proofs.Common.{sym, ◌∙◌, arith}
use Rattle.std.proofs.Math.Bool.{false}
use Prim.Native.Nat.{ℕ, zero, suc, ◌+◌, ◌-◌, ◌*◌, ◌^◌, ◌<◌}
use Rattle.std.proofs.Math.Pow.{pow-lt}
use Rattle.std.specs.Float.{Format}
use Rattle.std.specs.Float.Ieee.{prec, hid, of_bits}
use Rattle.std.specs.Float.Ieee.Fits.{two, reach}
use Rattle.std.specs.Float.Ieee.Bits.{of_bits-fits}
use Rattle.units.specs.Whole.{nat}
use Rattle.units.proofs.Scaling.{short_power}
use Rattle.ieee.specs.Units.{Is, Number, negative, magnitude, signed, signed_whole, value, whole, sign_of}
use Rattle.ieee.proofs.Finite.{is_units, is_finite, same_float}
use Rattle.ieee.proofs.RoundExact.{round_exact}
use Rattle.ieee.proofs.Overflow.{nearest_round, nearest_fits}
use Rattle.ieee.proofs.Exponent.{subnormal_pattern, power_pattern}
use Rattle.exponent.specs.Power.{powers, power_of}

-- ---- two numbers of one sign and one count of units are one float
is_value : (f : Format) (x : Float) (s : Bool) (n : ℕ) → Is f x s n → value f x ≡ signed s n
unfolding value
is_value f x s n h = λ i. signed ((is_units f x s n h).0 i) ((is_units f x s n h).1 i)

is_same : {f : Format} {x y : Float} (s : Bool) (n : ℕ) → Number f x → Number f y → Is f x s n → Is f y s n → x ≡ y
is_same {f} {x} {y} s n X Y h k =
    same_float X Y (is_value f x s n h ∙ sym (is_value f y s n k)) (λ z. (is_units f x s n h).0 ∙ sym (is_units f y s n k).0)

module _ (f : Format) {k : ℕ} (l : k < powers f) where
  pub power_is : Is f (power_of f k) false (2 ^ k)
  unfolding power_of
  power_is = rw (nearest_round f false (pos (2 ^ k)), positive (2 ^ k)) (round_exact f false (2 ^ k) (short_power (prec f) k) (pow-lt l))
    where
      positive : (n : ℕ) → sign_of false (pos n) ≡ false
      positive zero = refl
      positive (suc n) = refl

  pub power_number : Number f (power_of f k)
  unfolding power_of
  power_number = record { fit = nearest_fits f false (pos (2 ^ k)); fini = is_finite f (power_of f k) false (2 ^ k) power_is }

  pub power_negative : negative (power_of f k) ≡ false
  power_negative = (is_units f (power_of f k) false (2 ^ k) power_is).0

  pub power_magnitude : magnitude f (power_of f k) ≡ 2 ^ k
  power_magnitude = (is_units f (power_of f k) false (2 ^ k) power_is).1

  pub power_whole : whole f (power_of f k) ≡ nat (2 ^ k)
  unfolding whole
  power_whole = λ i. signed_whole (power_negative i) (power_magnitude i)

  -- a number of the format that is 2^k units is this one
  pub power_same : {x : Float} → Number f x → Is f x false (2 ^ k) → x ≡ power_of f k
  power_same X h = is_same false (2 ^ k) X power_number h power_is

  -- ---- its pattern: one digit below the field, or a field over no digit
  pub low_power : k < prec f - 1 → of_bits f (2 ^ k) ≡ power_of f k
  low_power h = let s : Is f (of_bits f (2 ^ k)) false (2 ^ k) = subnormal_pattern f (pow-lt h) in
      power_same (record { fit = of_bits-fits f (2 ^ k); fini = is_finite f (of_bits f (2 ^ k)) false (2 ^ k) s }) s

  pub high_power : (x : ℕ) → prec f - 1 + x ≡ k → of_bits f (suc x * hid f) ≡ power_of f k
  high_power x e = power_same (record { fit = of_bits-fits f b; fini = is_finite f (of_bits f b) false (2 ^ k) s }) s
    where
      b : ℕ
      b = suc x * hid f

      s : Is f (of_bits f b) false (2 ^ k)
      s = rw e at (power_pattern f x (omega (arith, two f, reach f)))
