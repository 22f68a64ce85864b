-- A number without its sign: as a float, which rule W3 compares, and as a pattern, and the larger of two patterns. Assumes nothing.
use Rattle.std.specs.Prelude.{◌≡◌, refl, Bool, true, false, not, cond, ℕ, ◌+◌, ◌-◌, ◌*◌, ◌%◌, ◌≤◌, ◌<◌, max, ltb, Float}
use Rattle.std.proofs.Common.{sym, ap, ◌∙◌, arith, ltb-true, ltb-false, pow_pos}
use Rattle.std.proofs.Math.Nat.{zero-div, zero-mod, mul-pos}
use Rattle.std.specs.Float.{Format}
use Rattle.std.specs.Float.Ieee.{prec, top, ones, hid, of_bits, to_bits, neg, lt}
use Rattle.ieee.specs.Units.{Is, Number, negative, magnitude, signed_whole, whole, pattern_units}
use Rattle.ieee.proofs.Finite.{facts, is_units}
use Rattle.ieee.proofs.Pattern.{pattern_positive, pattern_lt, pattern_le}
use Rattle.ieee.proofs.PatternBounds.{pattern_number, bits_below, bits_units}
use Rattle.ieee.proofs.Compare.{lt_units}
use Rattle.ieee.proofs.Sum.{neg_negative, neg_magnitude, neg_number}
use Rattle.extract.specs.Extract.{plus_zero, absolute}

-- x is n units with the sign of +0
pub record Positive (f : Format) (x : Float) (n : ℕ) : Type 0 where
  pub number : Number f x
  pub sign : negative x ≡ false
  pub units : magnitude f x ≡ n

-- x is n units, and may be -0
pub record Unsigned (f : Format) (x : Float) (n : ℕ) : Type 0 where
  pub number : Number f x
  pub sign : negative x ≡ true → n ≡ 0
  pub units : magnitude f x ≡ n

-- the pattern r, without its sign, stands for n units
pub record Stands (f : Format) (r n : ℕ) : Type 0 where
  pub below : r < ones f * hid f
  pub units : pattern_units f r ≡ n

module _ (f : Format) where
  pub positive_is : {x : Float} {n : ℕ} → Positive f x n → Is f x false n
  positive_is {x} {n} P = rw (P.sign, P.units) at (facts f x P.number).is

  -- ---- the pattern that is greater stands for more

  pub zero_stands : Stands f 0 0
  unfolding pattern_units
  zero_stands = record { below = mul-pos {m = ones f} {n = hid f} (omega arith) (pow_pos (prec f - 1)); units = rw (zero-div (hid f), zero-mod (hid f)) }

  pub number_stands : {x : Float} → Number f x → Stands f (to_bits f x % top f) (magnitude f x)
  number_stands X = record { below = bits_below X; units = sym (bits_units X).1 }

  pub stands_is : {r n : ℕ} → Stands f r n → Is f (of_bits f r) false n
  stands_is {r} {n} R = rw R.units at (pattern_positive f r R.below)

  module _ {r q m n : ℕ} (R : Stands f r m) (Q : Stands f q n) where
    pub larger : r < q → Stands f q (max m n)
    larger h = record { below = Q.below; units = omega (arith, (pattern_lt f).0 h, R.units, Q.units) }

    pub kept : q ≤ r → Stands f r (max m n)
    kept h = record { below = R.below; units = omega (arith, (pattern_le f).0 h, R.units, Q.units) }

  -- ---- the float without its sign

  pub zero_positive : Positive f (plus_zero f) 0
  zero_positive =
      let u = is_units f (plus_zero f) false 0 (stands_is zero_stands) in
      record { number = pattern_number f 0 (rw (zero-mod (top f)) zero_stands.below); sign = u.0; units = u.1 }

  below_zero : {x : Float} → Number f x → (s : Bool) → negative x ≡ s
      → lt x (plus_zero f) ≡ ltb ((signed_whole s (magnitude f x)).up + 0) (0 + (signed_whole s (magnitude f x)).dn)
  unfolding whole
  below_zero {x} X s e = rw (e, zero_positive.sign, zero_positive.units) at (lt_units f x (plus_zero f) X zero_positive.number)

  pub absolute_is : {x : Float} → Number f x → Unsigned f (absolute f x) (magnitude f x)
  absolute_is {x} X = go (lt x (plus_zero f)) refl
    where
      opposite : (s : Bool) → negative x ≡ s → lt x (plus_zero f) ≡ true → negative (neg x) ≡ true → magnitude f x ≡ 0
      opposite true e h n = let z : ◌≡◌ {A = Bool} true false = sym n ∙ neg_negative x X.fini ∙ ap not e in cc
      opposite false e h n =
          let l : magnitude f x + 0 < 0 + 0 = ltb-true (magnitude f x + 0) (0 + 0) (sym (below_zero X false e) ∙ h) in
          absurd (omega arith)

      itself : (s : Bool) → negative x ≡ s → lt x (plus_zero f) ≡ false → negative x ≡ true → magnitude f x ≡ 0
      itself true e h n = let l : 0 + magnitude f x ≤ 0 + 0 = ltb-false (0 + 0) (0 + magnitude f x) (sym (below_zero X true e) ∙ h) in omega arith
      itself false e h n = let z : ◌≡◌ {A = Bool} true false = sym n ∙ e in cc

      go : (b : Bool) → lt x (plus_zero f) ≡ b → Unsigned f (cond b (neg x) x) (magnitude f x)
      go true h = record { number = neg_number f x X; sign = opposite (negative x) refl h; units = neg_magnitude f x }
      go false h = record { number = X; sign = itself (negative x) refl h; units = refl }
