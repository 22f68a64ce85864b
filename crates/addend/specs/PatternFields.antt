-- A finite pattern by its fields: its sign, and its magnitude from the exponent's field and the digits below the leading one. Assumes nothing.
use Rattle.std.specs.Prelude.{◌≡◌, Bool, ℕ, suc, ◌+◌, ◌-◌, ◌*◌, ◌/◌, ◌%◌, ◌^◌, ◌≤◌, ◌<◌, T, leb, pos, neg_ℤ}
use Rattle.std.proofs.Math.Path.{ap}
use Rattle.std.proofs.Common.{◌∙◌, inl, inr, mul-pos, arith, ltb→lt, lt→ltb, pow_pos}
use Rattle.std.proofs.Math.Nat.{zero-div, zero-mod}
use borrow.Author.Tests.{le-leb, lt-leb}
use Rattle.std.specs.Float.{Format}
use Rattle.std.specs.Float.Ieee.{prec, hid, ones, top, of_bits}
use Rattle.std.specs.Float.Ieee.Scale.{finite}
use Rattle.units.proofs.Powers.{le_or_lt}
use Rattle.ieee.specs.Units.{negative, magnitude, value, signed, field_units, pattern_units}
use Rattle.ieee.proofs.Finite.{is_units}
use Rattle.ieee.proofs.Pattern.{pattern_is, pattern_finite}

module _ (f : Format) (b : ℕ) (F : T (finite (of_bits f b))) where
  known : (negative (of_bits f b) ≡ leb (top f) b) × (magnitude f (of_bits f b) ≡ pattern_units f (b % top f))
  known =
      let h : b % top f < ones f * hid f = ltb→lt (b % top f) (ones f * hid f) (rw (pattern_finite f b) at F) in
      is_units f (of_bits f b) (leb (top f) b) (pattern_units f (b % top f)) (pattern_is f b h)

  pub pattern_magnitude : magnitude f (of_bits f b) ≡ pattern_units f (b % top f)
  pattern_magnitude = known.1

  -- ---- the sign
  pub pattern_plus : b < top f → value f (of_bits f b) ≡ pos (magnitude f (of_bits f b))
  unfolding value
  pattern_plus h = ap (λ (s : Bool). signed s (magnitude f (of_bits f b))) (known.0 ∙ lt-leb (top f) b h)

  pub pattern_minus : top f ≤ b → value f (of_bits f b) ≡ neg_ℤ (pos (magnitude f (of_bits f b)))
  unfolding value
  pattern_minus h = ap (λ (s : Bool). signed s (magnitude f (of_bits f b))) (known.0 ∙ le-leb (top f) b h)

  -- ---- the magnitude: a field of 0 has no leading digit, and counts as a field of 1
  by_field : (x : ℕ) → b % top f / hid f ≡ x → magnitude f (of_bits f b) ≡ field_units f x (b % top f % hid f)
  unfolding pattern_units
  by_field x e = known.1 ∙ ap (λ (y : ℕ). field_units f y (b % top f % hid f)) e

  pub pattern_subnormal : b % top f / hid f ≡ 0 → magnitude f (of_bits f b) ≡ b % top f % hid f
  pattern_subnormal e = by_field 0 e

  pub pattern_normal : 0 < b % top f / hid f → magnitude f (of_bits f b) ≡ (hid f + b % top f % hid f) * 2 ^ (b % top f / hid f - 1)
  pattern_normal h = by_field (suc (b % top f / hid f - 1)) (omega arith)

-- ---- +0 and -0
module _ (f : Format) (b : ℕ) (z : b % top f ≡ 0) where
  pub zero_finite : T (finite (of_bits f b))
  zero_finite = rw (pattern_finite f b, z) (lt→ltb 0 (ones f * hid f) (mul-pos (omega arith) (pow_pos (prec f - 1))))

  pub zero_value : value f (of_bits f b) ≡ pos 0
  zero_value =
      let field : b % top f / hid f ≡ 0 = ap (λ (r : ℕ). r / hid f) z ∙ zero-div (hid f) in
      let none : magnitude f (of_bits f b) ≡ 0 = pattern_subnormal f b zero_finite field ∙ ap (λ (r : ℕ). r % hid f) z ∙ zero-mod (hid f) in
      elim (le_or_lt (top f) b) [
        | inl h ↦ rw (pattern_minus f b zero_finite h, none)
        | inr h ↦ rw (pattern_plus f b zero_finite h, none)
      ]
