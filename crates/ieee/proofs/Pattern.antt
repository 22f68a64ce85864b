-- Bit patterns by their units: what a finite pattern stands for, which patterns are finite, that patterns without their sign are in the order of their
-- magnitudes, and what the pattern of a number is. r and L are patterns without their sign; the infinity's is `ones f * hid f`. Assumes nothing.
use Rattle.std.specs.Prelude.{◌≡◌, ◌⊎◌, ◌↔◌, Bool, cond, not, leb, ltb, eqb}
use Rattle.std.proofs.Math.Path.{refl, ap}
use Rattle.std.proofs.Common.{sym, ◌∙◌, inl, inr, le_of_eq, le_of_lt, le_antisymm, le_of_suc-le-suc, lt_of_not-le, not-le_of_lt, eq-or-lt_of_le, zero-lt-suc}
use Rattle.std.proofs.Common.{mul-one, mul_comm, mul-pos, mul-le-mul_left, mul-le-mul_right, mul-lt-mul_of_pos_right, mod-lt, mod-eq_of_lt, div-lt_iff_lt-mul}
use Rattle.std.proofs.Common.{le-div_iff_mul-le, arith, eqb→eq, lt→ltb, pow_pos, pow_mono}
use Rattle.std.proofs.Math.Bool.{true, false}
use Prim.Native.Nat.{ℕ, zero, suc, ◌+◌, ◌-◌, ◌*◌, ◌/◌, ◌%◌, ◌^◌, ◌≤◌, ◌<◌}
use Rattle.std.proofs.Math.Nat.{lt_of_lt_of_le, pow-succ', div-add-mod', mod-mod_of_dvd, dvd-mul_right, zero-div, zero-mod}
use Rattle.std.proofs.Math.Dec.{T}
use Rattle.std.proofs.Math.Arith.{le→nltb, lt→nleb}
use Rattle.std.specs.Float.{nan, inf, Format}
use Rattle.std.specs.Float.Ieee.{prec, low, odd, hid, ones, top, of_fields, of_bits, nan_bits}
use Rattle.std.specs.Float.Ieee.Fits.{eq→eqb}
use Rattle.std.specs.Float.Ieee.Bits.{is_true, is_false, nan_bits_above}
use Rattle.std.specs.Float.Ieee.Exact.{odd_sign}
use Rattle.std.specs.Float.Ieee.Scale.{finite}
use Rattle.std.specs.Float.Ieee.Nearest.{div_mono}
use Rattle.units.proofs.Powers.{le_or_lt}
use Rattle.ieee.specs.Units.{Is, magnitude, field_units, pattern_units}
use Rattle.ieee.proofs.Finite.{is_units, is_finite}

module _ (f : Format) where
  hid_pos : 0 < hid f
  hid_pos = pow_pos (prec f - 1)

  -- ---- what a finite pattern stands for

  read : (b : ℕ) → of_bits f b ≡ of_fields f (leb (top f) b) (b % top f / hid f) (b % top f % hid f)
  unfolding of_bits
  read b = rw (mod-mod_of_dvd (hid f) b (dvd-mul_right (hid f) (suc (ones f))))

  fields_are : (s : Bool) (x t : ℕ) → x < ones f → Is f (of_fields f s x t) s (field_units f x t)
  unfolding of_fields
  fields_are s zero t h = rw (mul-one t) at (odd_sign (prec f) s t 0 (low f))
  fields_are s (suc x) t h = go (eqb (suc x) (ones f)) (eqb→eq (suc x) (ones f))
    where
      go : (c : Bool) → (T c → suc x ≡ ones f) → Is f (cond c (cond (eqb t 0) (inf s) nan) (odd (prec f) s (hid f + t) x (low f))) s ((hid f + t) * 2 ^ x)
      go true e = let z : suc x ≡ ones f = e tt in absurd (omega arith)
      go false e = odd_sign (prec f) s (hid f + t) x (low f)

  pub pattern_is : (b : ℕ) → b % top f < ones f * hid f → Is f (of_bits f b) (leb (top f) b) (pattern_units f (b % top f))
  unfolding pattern_units
  pattern_is b h = rw (read b) (fields_are (leb (top f) b) (b % top f / hid f) (b % top f % hid f) ((div-lt_iff_lt-mul hid_pos).1 h))

  -- a pattern with no sign
  pub pattern_positive : (r : ℕ) → r < ones f * hid f → Is f (of_bits f r) false (pattern_units f r)
  pattern_positive r h =
      let l : r < top f = omega arith in
      let m : r % top f ≡ r = mod-eq_of_lt l in
      rw (is_false (leb (top f) r) (lt→nleb (top f) r l), m) at (pattern_is r (rw m h))

  -- ---- which patterns are finite: those below the infinity's

  fields_end : (s : Bool) (x t : ℕ) → x ≡ ones f → finite (of_fields f s x t) ≡ false
  unfolding of_fields
  fields_end s zero t e = absurd (omega arith)
  fields_end s (suc x) t e = go (eqb (suc x) (ones f)) (eqb t 0) (eq→eqb e)
    where
      go : (c d : Bool) → T c → finite (cond c (cond d (inf s) nan) (odd (prec f) s (hid f + t) x (low f))) ≡ false
      go true true h = refl
      go true false h = refl
      go false d h = absurd h

  pub pattern_finite : (b : ℕ) → finite (of_bits f b) ≡ ltb (b % top f) (ones f * hid f)
  pattern_finite b = elim (le_or_lt (ones f * hid f) r) [
    | inl h ↦
        ap finite (read b)
        ∙ fields_end (leb (top f) b) (r / hid f) (r % hid f) (last h)
        ∙ sym (is_false (ltb r (ones f * hid f)) (le→nltb r (ones f * hid f) h))
    | inr h ↦
        is_true (finite (of_bits f b)) (is_finite f (of_bits f b) (leb (top f) b) (pattern_units f r) (pattern_is b h))
        ∙ sym (is_true (ltb r (ones f * hid f)) (lt→ltb r (ones f * hid f) h))
  ]
    where
      r : ℕ
      r = b % top f

      last : ones f * hid f ≤ b % top f → b % top f / hid f ≡ ones f
      last h =
          let l : b % top f < suc (ones f) * hid f = rw (mul_comm (suc (ones f)) (hid f)) (mod-lt b (mul-pos hid_pos (zero-lt-suc (ones f)))) in
          le_antisymm (le_of_suc-le-suc ((div-lt_iff_lt-mul hid_pos).1 l)) ((le-div_iff_mul-le hid_pos).1 h)

  -- ---- a larger pattern is a larger magnitude

  pub no_units : pattern_units f 0 ≡ 0
  unfolding pattern_units
  no_units = rw (zero-div (hid f), zero-mod (hid f))

  -- a field x stands for less than hid * 2 ^ x units, and a larger field for no less
  under : (x t : ℕ) → t < hid f → field_units f x t < hid f * 2 ^ x
  under zero t h = omega arith
  under (suc x) t h = rw (pow-succ' 2 x) (omega (arith, mul-lt-mul_of_pos_right h (pow_pos x)))

  over : (x y t : ℕ) → x < y → hid f * 2 ^ x ≤ field_units f y t
  over x zero t h = absurd (omega arith)
  over x (suc y) t h = omega (arith, mul-le-mul_left (hid f) (pow_mono (le_of_suc-le-suc h)))

  level : (x t u : ℕ) → t < u → field_units f x t < field_units f x u
  level zero t u h = h
  level (suc x) t u h = omega (arith, mul-lt-mul_of_pos_right h (pow_pos x))

  rising : {r r' : ℕ} → r < r' → pattern_units f r < pattern_units f r'
  unfolding pattern_units
  rising {r} {r'} h = go (eq-or-lt_of_le (div_mono r (hid f) r' (hid f) hid_pos hid_pos (mul-le-mul_right (hid f) (le_of_lt h))))
    where
      go : (r / hid f ≡ r' / hid f) ⊎ (r / hid f < r' / hid f) → field_units f (r / hid f) (r % hid f) < field_units f (r' / hid f) (r' % hid f)
      go (inl e) =
          let q : r / hid f * hid f ≡ r' / hid f * hid f = ap (λ (x : ℕ). x * hid f) e in
          rw e (level (r' / hid f) (r % hid f) (r' % hid f) (omega (arith, div-add-mod' r (hid f), div-add-mod' r' (hid f))))
      go (inr l) = lt_of_lt_of_le (under (r / hid f) (r % hid f) (mod-lt r hid_pos)) (over (r / hid f) (r' / hid f) (r' % hid f) l)

  pub not_falling : {r r' : ℕ} → r ≤ r' → pattern_units f r ≤ pattern_units f r'
  not_falling h = elim (eq-or-lt_of_le h) [ inl e ↦ le_of_eq (ap (pattern_units f) e) | inr l ↦ le_of_lt (rising l) ]

  pub pattern_lt : {r r' : ℕ} → (r < r') ↔ (pattern_units f r < pattern_units f r')
  pattern_lt = (rising, λ h. lt_of_not-le (λ g. not-le_of_lt h (not_falling g)))

  pub pattern_le : {r r' : ℕ} → (r ≤ r') ↔ (pattern_units f r ≤ pattern_units f r')
  pattern_le = (not_falling, λ h. le_of_suc-le-suc (lt_of_not-le (λ g. not-le_of_lt (rising g) h)))

  -- a bound on patterns is a bound on magnitudes
  pub magnitude_is : (b : ℕ) → b % top f < ones f * hid f → magnitude f (of_bits f b) ≡ pattern_units f (b % top f)
  magnitude_is b l = (is_units f (of_bits f b) (leb (top f) b) (pattern_units f (b % top f)) (pattern_is b l)).1

  -- a pattern below the infinity's is no NaN's
  pub pattern_no_nan : {r : ℕ} → r < ones f * hid f → T (not (nan_bits f r))
  pattern_no_nan {r} h =
      let l : r < top f = omega arith in
      rw (nan_bits_above f r, mod-eq_of_lt l) (le→nltb (ones f * hid f) r (omega arith))
