-- The exponent of the least power of two at or above a positive number, by its pattern; ieee's Exponent has it for a field above 0. Assumes nothing.
use Rattle.std.specs.Prelude.{◌≡◌, false, ℕ, ◌-◌, ◌*◌, ◌<◌, leb, Float}
use Rattle.std.proofs.Common.{sym, ap, ◌∙◌, inl, inr, mod-eq_of_lt, le→leb}
use Rattle.std.specs.Float.{Format}
use Rattle.std.specs.Float.Ieee.{size, hid, ones, top, to_bits}
use Rattle.units.specs.Rounding.{ceil}
use Rattle.units.proofs.Powers.{le_or_lt}
use Rattle.ieee.specs.Units.{Number, negative, magnitude, pattern_units}
use Rattle.ieee.proofs.PatternBounds.{bits_below, bits_units}
use Rattle.ieee.proofs.Exponent.{subnormal_units}

-- ---- a field of 0: the digits are the units
pub subnormal_ceiling : (f : Format) {r : ℕ} → r < hid f → ceil (pattern_units f r) ≡ size (r - 1)
unfolding ceil
subnormal_ceiling f h = rw (subnormal_units f h)

-- ---- the units of a positive number are its pattern's
module _ {f : Format} {x : Float} (X : Number f x) (s : negative x ≡ false) where
  unsigned : to_bits f x < top f
  unsigned = elim (le_or_lt (top f) (to_bits f x)) [
    | inl h ↦ let z : leb (top f) (to_bits f x) ≡ false = sym (bits_units X).0 ∙ s in absurd (rw z at (le→leb (top f) (to_bits f x) h))
    | inr h ↦ h
  ]

  -- its pattern is below the infinity's, and stands for its units
  pub positive_bits : to_bits f x < ones f * hid f
  positive_bits = rw (mod-eq_of_lt unsigned) at (bits_below X)

  pub positive_units : magnitude f x ≡ pattern_units f (to_bits f x)
  positive_units = (bits_units X).1 ∙ ap (pattern_units f) (mod-eq_of_lt unsigned)
