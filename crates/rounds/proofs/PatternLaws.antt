-- What the code reads off patterns is what the rules say of floats: whether mu is zero, whether sigma is at most the least normal number, and a scaled sigma.
-- Assumes nothing.
use Rattle.std.specs.Prelude.{◌≡◌, refl, ◌↔◌, false, ℕ, suc, ◌+◌, ◌-◌, ◌*◌, ◌^◌, ◌≤◌, ◌<◌, T, leb, Float}
use Rattle.std.proofs.Common.{sym, ap, ◌∙◌, le_of_eq, le_antisymm, mul-lt-mul_of_pos_right, arith, leb→le, le→leb, lit<, pow_pos}
use Rattle.std.specs.Float.{Format, binary32, binary64}
use Rattle.std.specs.Float.Ieee.{prec, low, hid, ones, of_bits, to_bits, le, fits}
use Rattle.std.specs.Float.Ieee.Fits.{two, reach}
use Rattle.ieee.specs.Units.{Number, negative, magnitude, pattern_units}
use Rattle.ieee.proofs.Fractions.{same_test}
use Rattle.ieee.proofs.Pattern.{pattern_le, pattern_positive}
use Rattle.ieee.proofs.Finite.{is_units}
use Rattle.ieee.proofs.Exponent.{power_pattern}
use Rattle.exponent.specs.Power.{powers, power_of}
use Rattle.exponent.proofs.PowerLaws.{power_same}
use Rattle.exponent.proofs.CeilingLaws.{positive_units}
use Rattle.extract.specs.LargestLaws.{Positive, positive_is, zero_stands}
use Rattle.rounds.specs.Round.{scaled, least_normal}
use Rattle.rounds.specs.Closable.{PowerFrom}
use Rattle.rounds.proofs.Closes.{scaled_positive, le_is, least_normal_lem, normal_above}

hid_below : (f : Format) → hid f < ones f * hid f
hid_below binary32 = lit< tt
hid_below binary64 = lit< tt

module _ (f : Format) where
  pub zero_bits : {mu : Float} {m : ℕ} → Positive f mu m → (to_bits f mu ≡ 0) ↔ (m ≡ 0)
  zero_bits {mu} {m} P = (none, no_bits)
    where
      is : m ≡ pattern_units f (to_bits f mu)
      is = sym P.units ∙ positive_units P.number P.sign

      none : to_bits f mu ≡ 0 → m ≡ 0
      none e = is ∙ ap (pattern_units f) e ∙ (zero_stands f).units

      no_bits : m ≡ 0 → to_bits f mu ≡ 0
      no_bits e = let l : to_bits f mu ≤ 0 = (pattern_le f).1 (omega (arith, is, (zero_stands f).units)) in omega arith

  -- rule W3's 2^-1022
  pub normal_bits : {x : Float} → Number f x → negative x ≡ false → leb (to_bits f x) (hid f) ≡ le x (least_normal f)
  normal_bits {x} X s =
      same_test (leb (to_bits f x) (hid f)) (leb (magnitude f x) (2 ^ (prec f - 1)))
      (λ t. le→leb (magnitude f x) (2 ^ (prec f - 1)) (up (leb→le (to_bits f x) (hid f) t)))
      (λ t. le→leb (to_bits f x) (hid f) (down (leb→le (magnitude f x) (2 ^ (prec f - 1)) t)))
      ∙ sym (le_is f (record { number = X; sign = s; units = refl }) (least_normal_lem f))
    where
      least : pattern_units f (hid f) ≡ 2 ^ (prec f - 1)
      least = sym (is_units f (least_normal f) false (pattern_units f (hid f)) (pattern_positive f (hid f) (hid_below f))).1 ∙ (least_normal_lem f).units

      up : to_bits f x ≤ hid f → magnitude f x ≤ 2 ^ (prec f - 1)
      up h = rw (positive_units X s, ← least) ((pattern_le f).0 h)

      down : magnitude f x ≤ 2 ^ (prec f - 1) → to_bits f x ≤ hid f
      down h = (pattern_le f).1 (rw (positive_units X s, ← least) at h)

  -- and above it sigma is 2^prec units or more
  pub power_above : {x : Float} → PowerFrom f 0 x → T (fits f x) → le x (least_normal f) ≡ false → PowerFrom f (prec f) x
  power_above P fit h = record {
    k = P.k;
    fini = P.fini;
    positive = P.positive;
    power = P.power;
    from = normal_above f P.k (record { number = record { fit = fit; fini = P.fini }; sign = P.positive; units = P.power }) h;
    to = P.to;
  }

  -- a power of two above it is a field over no digit
  pub power_field : {x : Float} (P : PowerFrom f (prec f) x) → T (fits f x) → to_bits f x ≡ suc (P.k - (prec f - 1)) * hid f
  power_field {x} P fit = le_antisymm ((pattern_le f).1 (le_of_eq same)) ((pattern_le f).1 (le_of_eq (sym same)))
    where
      y : ℕ
      y = P.k - (prec f - 1)

      field : suc y < ones f
      field = omega (arith, P.to, P.from, two f, reach f)

      e : prec f - 1 + y ≡ P.k
      e = omega (arith, P.from)

      there : magnitude f (of_bits f (suc y * hid f)) ≡ pattern_units f (suc y * hid f)
      there = (is_units f _ false _ (pattern_positive f (suc y * hid f) (mul-lt-mul_of_pos_right field (pow_pos (prec f - 1))))).1

      same : pattern_units f (to_bits f x) ≡ pattern_units f (suc y * hid f)
      same =
          sym (positive_units (record { fit = fit; fini = P.fini }) P.positive) ∙ P.power
          ∙ sym (ap (λ (k : ℕ). 2 ^ k) e) ∙ sym (is_units f _ false _ (power_pattern f y field)).1 ∙ there

  -- 2^j eps sigma is the power of two at sigma's exponent and j less prec
  pub scaled_power : (j : ℕ) {sigma : Float} → prec f ≤ low f → j ≤ prec f → (P : PowerFrom f (prec f) sigma) → T (fits f sigma)
      → power_of f (P.k + j - prec f) ≡ scaled f j sigma
  scaled_power j {sigma} fine l P fit = sym (power_same f c_fits S.number (positive_is f S))
    where
      c : ℕ
      c = P.k + j - prec f

      c_fits : c < powers f
      c_fits = omega (arith, P.to, P.from)

      S : Positive f (scaled f j sigma) (2 ^ c)
      S = scaled_positive f j P.k c fine (record { number = record { fit = fit; fini = P.fini }; sign = P.positive; units = P.power })
          (omega (arith, P.from)) l c_fits
