-- Two faithful roundings of one number in a format are the same float, or neighbours; and how far off a faithful rounding is. Assumes nothing.
use Rattle.std.specs.Prelude.{◌≡◌, ◌⊎◌, ◌+◌, ◌<◌, ℤ, pos, nat_abs, ◌-ℤ◌, ◌<ℤ◌, Float}
use Rattle.std.proofs.Common.{sym, ap, ◌∙◌, inl, inr, arith}
use Rattle.std.specs.Int.Signed.{<ℤ_irrefl}
use Rattle.std.specs.Float.{Format}
use Rattle.std.specs.Float.Ieee.{prec}
use Rattle.units.specs.Whole.{◌⊖◌, mag, difference}
use Rattle.units.proofs.Powers.{le_or_lt, pow_pred}
use Rattle.units.proofs.Integers.{int_lt, int_only, int_mag, int_minus, int_difference, mag_difference}
use Rattle.units.specs.Faithful.{Faithful}
use Rattle.units.proofs.FaithfulDistance.{faithful_relative}
use Rattle.ieee.specs.Units.{Number, negative, value, whole}
use Rattle.ieee.specs.Accuracy.{FaithfulTo, Neighbouring, EqualOrNeighbouring, equal, below, above, CloseTo}
use Rattle.ieee.proofs.Finite.{same_float}
use Rattle.ieee.proofs.Rounded.{prec_pos}
use Rattle.ieee.proofs.Sum.{value_int}

-- one integer is less than another, or the same, or more
order : (a b : ℤ) → (a <ℤ b) ⊎ ((a ≡ b) ⊎ (b <ℤ a))
order a b = elim (le_or_lt ((difference b).up + (difference a).dn) ((difference a).up + (difference b).dn)) [
  | inr l ↦ inl (lifted a b l)
  | inl l ↦ elim (le_or_lt ((difference a).up + (difference b).dn) ((difference b).up + (difference a).dn)) [
    | inl m ↦ inr (inl (sym (int_difference a) ∙ int_only (difference a) b (omega arith)))
    | inr m ↦ inr (inr (lifted b a m))
  ]
]
  where
    lifted : (a b : ℤ) → (difference a).up + (difference b).dn < (difference b).up + (difference a).dn → a <ℤ b
    lifted a b l = rw (int_difference a, int_difference b) at ((int_lt (difference a) (difference b)).0 l)

module _ {f : Format} {S : ℤ} {x y : Float} (X : FaithfulTo f S x) (Y : FaithfulTo f S y) where
  -- what lies between would lie between x and S, or be S, or lie between S and y
  neighbours : value f x <ℤ value f y → Neighbouring f x y
  neighbours l = record { lower = X.number; higher = Y.number; less = l; none = none }
    where
      none : (z : Float) → Number f z → value f x <ℤ value f z → value f z <ℤ value f y → ⊥
      none z Z h k = elim (order (value f z) S) [
        | inl m ↦ X.above z Z h m
        | inr m ↦ elim m [
          | inl e ↦ <ℤ_irrefl (rw (e, X.exact z Z e) at h)
          | inr n ↦ Y.below z Z n k
        ]
      ]

module _ {f : Format} {S : ℤ} {x y : Float} (X : FaithfulTo f S x) (Y : FaithfulTo f S y) where
  pub two_faithful : (value f x ≡ pos 0 → value f y ≡ pos 0 → negative x ≡ negative y) → EqualOrNeighbouring f x y
  two_faithful z = elim (order (value f x) (value f y)) [
    | inl l ↦ below (neighbours X Y l)
    | inr m ↦ elim m [
      | inl e ↦ equal (same_float X.number Y.number e (λ o. z o (sym e ∙ o)))
      | inr l ↦ above (neighbours Y X l)
    ]
  ]

-- rule S9
pub faithful_close : {f : Format} {S : ℤ} {x : Float} → Faithful (prec f) (whole f x) (difference S) → CloseTo f S x
faithful_close {f} {S} {x} F = record {
  close = λ h.
      let r = faithful_relative (prec f) (prec_pos f) F (λ e. omega (arith, mag_difference S)) in
      rw (distance, ← (mag_difference S)) (omega (arith, rw (← (pow_pred (prec_pos f))) at r));
}
  where
    distance : nat_abs (value f x -ℤ S) ≡ mag (whole f x ⊖ difference S)
    distance =
        (λ i. nat_abs (value_int f x i -ℤ sym (int_difference S) i))
        ∙ ap nat_abs (sym (int_minus (whole f x) (difference S)))
        ∙ int_mag (whole f x ⊖ difference S)
