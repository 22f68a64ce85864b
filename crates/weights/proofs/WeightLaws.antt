-- Weights by their patterns: what a good one is in units, that the pattern of so many grains is a good weight of so many, that there is no other pattern of
-- it, and which patterns are good. Assumes nothing.
use Rattle.std.specs.Prelude.{◌≡◌, refl, Bool, true, ◌&&◌, List, ℕ, zero, suc, ◌+◌, ◌-◌, ◌*◌, ◌%◌, ◌^◌, ◌≤◌, ◌<◌, length, get_or, pos, Float}
use Rattle.std.proofs.Common.{sym, ◌∙◌, le_trans, le_of_eq, lt_of_le_of_lt, mul_comm, mul-le-mul_right, mul-lt-mul_of_pos_right, mul-div_cancel, mod-eq_of_lt}
use Rattle.std.proofs.Common.{arith, leb→le, ltb→lt, pow_pos, pow_mono}
use Rattle.std.proofs.Math.Path.{ap}
use Rattle.std.proofs.Math.Bool.{false, not}
use Rattle.std.proofs.Math.Nat.{mul-mod_left, div-add-mod', div-le_of_le-mul}
use borrow.Author.Tests.{leb-false, le-leb, eq-eqb, ne_eqb}
use Rattle.std.proofs.Math.Dec.{T, leb, eqb, eqb→eq}
use Rattle.std.proofs.Math.Pow.{pow-lt}
use Rattle.std.specs.Float.{Format}
use Rattle.std.specs.Float.Ieee.{prec, emax, low, hid, ones, top, of_bits, to_bits}
use Rattle.std.specs.Float.Ieee.Fits.{reach, and_l, and_r}
use Rattle.std.specs.Float.Ieee.Bits.{is_true, is_false, of_bits-fits, of_bits-to_bits, to_bits-of_bits}
use Rattle.std.specs.Float.Ieee.Scale.{finite, overflow}
use Rattle.units.specs.Rounding.{Short}
use Rattle.units.proofs.Powers.{pow_split}
use Rattle.ieee.specs.Units.{Is, Number, negative, magnitude, signed, value, sign_of, nearest_float, pattern_units}
use Rattle.ieee.proofs.Finite.{is_units, is_finite, facts, finite_no_nan, same_float}
use Rattle.ieee.proofs.RoundExact.{round_exact}
use Rattle.ieee.proofs.Overflow.{nearest_round, nearest_fits}
use Rattle.ieee.proofs.Pattern.{pattern_is, pattern_positive, pattern_finite, pattern_le}
use Rattle.ieee.proofs.Exponent.{power_pattern}
use Rattle.lists.proofs.Apart.{apart}
use Rattle.kinds.specs.Limits.{Width}
use Rattle.judge.specs.Table.{Allowed, most}
use Rattle.judge.specs.FaultLaws.{fault_0}
use Rattle.weights.specs.Table.{Weighed}
use Rattle.weights.specs.Weights.{grains, grain, whole_weight, weight_good, weight_of, pattern_for}
use Rattle.weights.specs.WeightLaws.{Fine, field_of_grain}

pub is_value : (f : Format) (x : Float) (s : Bool) (n : ℕ) → Is f x s n → value f x ≡ signed s n
unfolding value
is_value f x s n h = λ i. signed ((is_units f x s n h).0 i) ((is_units f x s n h).1 i)

-- two numbers of one sign and one count of units are one float
is_same : {f : Format} {x y : Float} (s : Bool) (n : ℕ) → Number f x → Number f y → Is f x s n → Is f y s n → x ≡ y
is_same {f} {x} {y} s n X Y h k =
    same_float X Y (is_value f x s n h ∙ sym (is_value f y s n k)) (λ z. (is_units f x s n h).0 ∙ sym (is_units f y s n k).0)

module _ (W : Width) (F : Fine W) where
  abbrev f : Format
  f = W.format

  -- 1 is 2^30 grains
  pub one_is : grains * grain f ≡ whole_weight f
  one_is = omega (arith, pow_split {i = 30} {j = low f} (omega (arith, F.deep)))

  pub below_one : {k : ℕ} → k ≤ grains → k * grain f ≤ whole_weight f
  below_one h = le_trans (mul-le-mul_right (grain f) h) (le_of_eq one_is)

  -- where a field over no digit is a power of two
  power_units : (n x m : ℕ) → n ≡ suc x → suc x < ones f → prec f - 1 + x ≡ m → pattern_units f (n * hid f) ≡ 2 ^ m
  power_units n x m e l d =
      ap (λ (n : ℕ). pattern_units f (n * hid f)) e
      ∙ sym (is_units f (of_bits f r) false (pattern_units f r) (pattern_positive f r (mul-lt-mul_of_pos_right l (pow_pos (prec f - 1))))).1
      ∙ (is_units f (of_bits f r) false (2 ^ (prec f - 1 + x)) (power_pattern f x l)).1
      ∙ ap (λ (m : ℕ). 2 ^ m) d
    where
      r : ℕ
      r = suc x * hid f

  -- the patterns of 1 and of a grain
  pub one_units : pattern_units f (emax f * hid f) ≡ whole_weight f
  one_units =
      let d = F.digits in
      let r = reach f in
      power_units (emax f) (emax f - 1) (low f) (omega arith) (omega arith) (omega arith)

  pub grain_units : pattern_units f (field_of_grain f * hid f) ≡ grain f
  grain_units =
      let d = F.digits in
      let e = F.deep in
      power_units (field_of_grain f) (low f - 30 - (prec f - 1)) (low f - 30) (omega arith) (omega arith) (omega arith)

  -- ---- so many grains as a float
  module _ (k : ℕ) (h : k ≤ grains) where
    abbrev x : Float
    x = nearest_float f false (pos (k * grain f))

    nearest_grains : Is f x false (k * grain f)
    nearest_grains = rw (nearest_round f false (pos (k * grain f)), positive (k * grain f)) (round_exact f false (k * grain f) short below)
      where
        positive : (n : ℕ) → sign_of false (pos n) ≡ false
        positive zero = refl
        positive (suc n) = refl

        short : Short (prec f) (k * grain f)
        short = record { exp = low f - 30; sig = k; is = refl; small = le_trans h (pow_mono {i = 30} (omega (arith, F.digits))) }

        below : k * grain f < overflow f
        below = lt_of_le_of_lt (below_one h) (pow-lt (omega arith))

    nearest_number : Number f x
    nearest_number = record { fit = nearest_fits f false (pos (k * grain f)); fini = is_finite f x false (k * grain f) nearest_grains }

    -- its pattern is read as it
    pub pattern_grains : Is f (of_bits f (pattern_for W k)) false (k * grain f)
    unfolding pattern_for
    pattern_grains = rw (of_bits-to_bits f x nearest_number.fit) nearest_grains

    -- a pattern below the infinity's with so many units is this one
    pub pattern_unique : (r : ℕ) → r < ones f * hid f → pattern_units f r ≡ k * grain f → pattern_for W k ≡ r
    unfolding pattern_for
    pattern_unique r l e = ap (to_bits f) same ∙ to_bits-of_bits f r (omega arith) (finite_no_nan (of_bits f r) R.fini)
      where
        is : Is f (of_bits f r) false (k * grain f)
        is = rw e at (pattern_positive f r l)

        R : Number f (of_bits f r)
        R = record { fit = of_bits-fits f r; fini = is_finite f (of_bits f r) false (k * grain f) is }

        same : x ≡ of_bits f r
        same = is_same false (k * grain f) nearest_number R nearest_grains is

    pub pattern_weight : weight_of W (pattern_for W k) ≡ k
    unfolding weight_of
    pattern_weight = rw (is_units f (of_bits f (pattern_for W k)) false (k * grain f) pattern_grains).1 (mul-div_cancel k (pow_pos (low f - 30)))

    pub pattern_good : weight_good W (pattern_for W k) ≡ true
    unfolding weight_good
    pattern_good =
        let b = of_bits f (pattern_for W k) in
        let u = is_units f b false (k * grain f) pattern_grains in
        rw (
          is_true (finite b) (is_finite f b false (k * grain f) pattern_grains),
          u.0,
          u.1,
          le-leb (k * grain f) (whole_weight f) (below_one h),
          mul-mod_left k (grain f),
        )

  -- ---- a good weight
  module _ (p : ℕ) (g : weight_good W p ≡ true) where
    abbrev y : Float
    y = of_bits f p

    tests : T (finite y) × T (not (negative y)) × T (leb (magnitude f y) (whole_weight f)) × T (eqb (magnitude f y % grain f) 0)
    unfolding weight_good
    tests =
        let A = finite y in
        let B = not (negative y) in
        let C = leb (magnitude f y) (whole_weight f) in
        let D = eqb (magnitude f y % grain f) 0 in
        let t : T (A && B && C && D) = rw g tt in
        let c = and_l (A && B && C) D t in
        let b = and_l (A && B) C c in
        (and_l A B b, and_r A B b, and_r (A && B) C c, and_r (A && B && C) D t)

    good_number : Number f y
    good_number = record { fit = of_bits-fits f p; fini = tests.0 }

    units : magnitude f y ≡ weight_of W p * grain f
    unfolding weight_of
    units = omega (arith, div-add-mod' (magnitude f y) (grain f), eqb→eq (magnitude f y % grain f) 0 tests.3)

    -- its units are its grains'
    pub good_is : Is f y false (weight_of W p * grain f)
    good_is = rw (is_false (negative y) tests.1, units) at (facts f y good_number).is

    pub good_most : weight_of W p ≤ grains
    unfolding weight_of
    good_most = div-le_of_le-mul (grain f) (rw (mul_comm (grain f) grains, one_is) (leb→le (magnitude f y) (whole_weight f) tests.2))

    -- it has no sign, and is below the infinity's
    below : p % top f < ones f * hid f
    below = ltb→lt (p % top f) (ones f * hid f) (rw (pattern_finite f p) at tests.0)

    known : (negative y ≡ leb (top f) p) × (magnitude f y ≡ pattern_units f (p % top f))
    known = is_units f y (leb (top f) p) (pattern_units f (p % top f)) (pattern_is f p below)

    unsigned : p < top f
    unsigned = leb-false (top f) p (sym known.0 ∙ is_false (negative y) tests.1)

    itself : p % top f ≡ p
    itself = mod-eq_of_lt unsigned

    pub good_pattern : pattern_for W (weight_of W p) ≡ p
    good_pattern = pattern_unique (weight_of W p) good_most p (rw itself at below) (sym (known.1 ∙ ap (pattern_units f) itself) ∙ units)

    pub good_below : p ≤ emax f * hid f
    good_below = (pattern_le f).1 (rw (one_units, ← (known.1 ∙ ap (pattern_units f) itself)) (leb→le (magnitude f y) (whole_weight f) tests.2))

  -- ---- which patterns are good, as the code tests it: none above that of 1, and below it those that come back
  pub good_not_above : (p : ℕ) → emax f * hid f < p → weight_good W p ≡ false
  good_not_above p h = go (weight_good W p) refl
    where
      go : (b : Bool) → weight_good W p ≡ b → b ≡ false
      go true e = absurd (omega (arith, good_below p e))
      go false e = refl

  module _ (p : ℕ) (h : p ≤ emax f * hid f) where
    finite_below : p < ones f * hid f
    finite_below = lt_of_le_of_lt h (mul-lt-mul_of_pos_right (omega arith) (pow_pos (prec f - 1)))

    pub below_units : magnitude f (of_bits f p) ≡ pattern_units f p
    below_units = (is_units f (of_bits f p) false (pattern_units f p) (pattern_positive f p finite_below)).1

    pub below_most : weight_of W p ≤ grains
    unfolding weight_of
    below_most = div-le_of_le-mul (grain f) (rw (mul_comm (grain f) grains, one_is, below_units, ← (one_units)) ((pattern_le f).0 h))

    pub good_back : eqb (pattern_for W (weight_of W p)) p ≡ weight_good W p
    good_back = go (weight_good W p) refl
      where
        go : (b : Bool) → weight_good W p ≡ b → eqb (pattern_for W (weight_of W p)) p ≡ b
        go true e = eq-eqb (pattern_for W (weight_of W p)) p (good_pattern p e)
        go false e = ne_eqb (pattern_for W (weight_of W p)) p (λ q.
            let t : true ≡ false = sym (pattern_good (weight_of W p) below_most) ∙ ap (weight_good W) q ∙ e in
            apart (cc))

  -- ---- weights are allowed numbers
  pub weighed_allowed : (ps : List ℕ) → Weighed W ps (length ps) → Allowed W ps
  weighed_allowed ps N = record { none = λ j h. (fault_0 W (get_or ps j 0)).1 (within (get_or ps j 0) (N.each j h)) }
    where
      within : (p : ℕ) → weight_good W p ≡ true → T (finite (of_bits f p)) × (magnitude f (of_bits f p) ≤ most W)
      within p g = ((tests p g).0, le_trans (leb→le (magnitude f (of_bits f p)) (whole_weight f) (tests p g).2) F.enough)
