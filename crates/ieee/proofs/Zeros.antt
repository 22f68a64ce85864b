-- The two zeros: the pattern of each, that -0 has no other one, and that a sum of two floats is -0 exactly where both are; numbers that cancel give +0.
-- Assumes nothing.
use Rattle.std.specs.Prelude.{◌≡◌, refl, ◌↔◌, Bool, true, false, cond, not, ◌&&◌, ℕ, ◌*◌, ◌<◌, ℤ, nat_abs, ◌+ℤ◌, T, Float}
use Rattle.std.proofs.Math.Path.{sym}
use Rattle.std.proofs.Common.{ap, ◌∙◌, arith, ltb→lt}
use Rattle.std.proofs.Math.Bool.{and-eq-true_iff}
use Rattle.std.proofs.Math.IntN.{pos, +ℤ_idr}
use Rattle.std.specs.Float.{nan, inf, fin, Format, binary32, binary64}
use Rattle.std.specs.Float.Ieee.{prec, top, fits, is_nan, of_bits, to_bits, add}
use Rattle.std.specs.Float.Ieee.Bits.{of_bits-fits, of_bits-to_bits, to_bits-of_bits}
use Rattle.std.specs.Float.Ieee.Scale.{finite}
use Rattle.units.specs.Whole.{Whole, nat, ◌⊕◌, ◌≈◌, mag, int}
use Rattle.units.specs.Rounding.{rnd, fl}
use Rattle.units.proofs.SignedRounding.{fl_nat, fl_zero}
use Rattle.units.proofs.Integers.{int_same, int_plus, int_mag, int_difference}
use Rattle.ieee.specs.Units.{Number, negative, magnitude, signed, value, whole, sign_of, nearest_float, limit}
use Rattle.ieee.proofs.Finite.{finite_no_nan, is_units, same_float}
use Rattle.ieee.proofs.Rounded.{prec_pos}
use Rattle.ieee.proofs.Sum.{value_int, value_mag, add_nearest}
use Rattle.ieee.proofs.Overflow.{power_below, nearest_finite, nearest_is, nearest_negative}
use Rattle.ieee.proofs.Nearest.{nearest_number}
use Rattle.ieee.specs.Zeros.{minus_zero}

-- ---- the floats and their patterns
minus_is : (f : Format) → minus_zero f ≡ fin true 0 (pos 0)
unfolding of_bits
minus_is binary32 = refl
minus_is binary64 = refl

-- the float nearest to zero, with the sign that it is given
pub zero_bits : (f : Format) (z : Bool) → to_bits f (nearest_float f z (pos 0)) ≡ cond z (top f) 0
unfolding nearest_float to_bits
zero_bits binary32 false = refl
zero_bits binary32 true = refl
zero_bits binary64 false = refl
zero_bits binary64 true = refl

pub zero_value : (f : Format) (z : Bool) → value f (nearest_float f z (pos 0)) ≡ pos 0
unfolding nearest_float value
zero_value binary32 false = refl
zero_value binary32 true = refl
zero_value binary64 false = refl
zero_value binary64 true = refl

pub minus_nearest : (f : Format) → nearest_float f true (pos 0) ≡ minus_zero f
unfolding of_bits nearest_float
minus_nearest binary32 = refl
minus_nearest binary64 = refl

plus_nearest : (f : Format) → nearest_float f false (pos 0) ≡ of_bits f 0
unfolding of_bits nearest_float
plus_nearest binary32 = refl
plus_nearest binary64 = refl

pub minus_bits : (f : Format) → to_bits f (minus_zero f) ≡ top f
minus_bits f = ap (to_bits f) (sym (minus_nearest f)) ∙ zero_bits f true

pub minus_value : (f : Format) → value f (minus_zero f) ≡ pos 0
minus_value f = ap (value f) (sym (minus_nearest f)) ∙ zero_value f true

pub minus_number : (f : Format) → Number f (minus_zero f)
minus_number f = record { fit = of_bits-fits f (top f); fini = rw (minus_is f) tt }

pub minus_sign : (f : Format) → negative (minus_zero f) ≡ true
unfolding negative
minus_sign f = rw (minus_is f)

pub minus_magnitude : (f : Format) → magnitude f (minus_zero f) ≡ 0
minus_magnitude f = sym (value_mag f (minus_zero f)) ∙ ap nat_abs (minus_value f)

pub minus_pattern_lem : (f : Format) (p : ℕ) → p < 2 * top f → (of_bits f p ≡ minus_zero f) ↔ (p ≡ top f)
minus_pattern_lem f p l = (λ e. sym (to_bits-of_bits f p l (known e)) ∙ ap (to_bits f) e ∙ minus_bits f, ap (of_bits f))
  where
    known : of_bits f p ≡ minus_zero f → T (not (is_nan (of_bits f p)))
    known e = rw e (finite_no_nan (minus_zero f) (minus_number f).fini)

-- a number with that pattern
pub bits_minus : {f : Format} {x : Float} → Number f x → to_bits f x ≡ top f → x ≡ minus_zero f
bits_minus {f} {x} X e = sym (of_bits-to_bits f x X.fit) ∙ ap (of_bits f) e

-- ---- sums
module _ {f : Format} where
  -- the sign and no unit make -0
  minus_from : {x : Float} → Number f x → negative x ≡ true → magnitude f x ≡ 0 → x ≡ minus_zero f
  unfolding value
  minus_from {x} X s m =
      let sign : negative x ≡ negative (minus_zero f) = s ∙ sym (minus_sign f) in
      same_float X (minus_number f) (λ i. signed (sign i) ((m ∙ sym (minus_magnitude f)) i)) (λ z. sign)

  -- of two numbers
  module _ {x y : Float} (X : Number f x) (Y : Number f y) (e : add f x y ≡ minus_zero f) where
    z : Bool
    z = negative x && negative y

    w : Whole
    w = whole f x ⊕ whole f y

    r : nearest_float f z (value f x +ℤ value f y) ≡ minus_zero f
    unfolding z
    r = sym (add_nearest f x y X Y) ∙ e

    units_are : value f x +ℤ value f y ≡ int w
    unfolding w
    units_are = (λ i. value_int f x i +ℤ value_int f y i) ∙ sym (int_plus (whole f x) (whole f y))

    rounded : nearest_float f z (int w) ≡ minus_zero f
    rounded = ap (nearest_float f z) (sym units_are) ∙ r

    small : nat_abs (int w) < limit f
    small = ltb→lt (nat_abs (int w)) (limit f) (rw (← (nearest_finite f z (int w)), rounded) (minus_number f).fini)

    units_of : (negative (minus_zero f) ≡ sign_of z (int w)) × (magnitude f (minus_zero f) ≡ rnd (prec f) (nat_abs (int w)))
    units_of = rw rounded at (is_units f (nearest_float f z (int w)) (sign_of z (int w)) (rnd (prec f) (nat_abs (int w))) (nearest_is f z (int w) small))

    -- no other sum is rounded to zero
    none : w ≈ nat 0
    none =
        let m : rnd (prec f) (mag w) ≡ 0 = rw (int_mag w) at (sym units_of.1 ∙ minus_magnitude f) in
        let l : fl (prec f) (nat (mag w)) ≈ nat 0 = rw (fl_nat (prec f) (prec_pos f) (mag w)) (omega (arith, m)) in
        omega (arith, fl_zero (prec f) (prec_pos f) (nat (mag w)) l)

    both : (negative x ≡ true) × (negative y ≡ true)
    unfolding z
    both =
        let zero : int w ≡ pos 0 = int_same w (nat 0) none ∙ int_difference (pos 0) in
        (and-eq-true_iff (negative x) (negative y)).0 (sym (ap (sign_of z) zero) ∙ sym units_of.0 ∙ minus_sign f)

    minus_both : (x ≡ minus_zero f) × (y ≡ minus_zero f)
    unfolding w whole
    minus_both = (
      minus_from X both.0 (omega (arith, rw (both.0, both.1) at none)),
      minus_from Y both.1 (omega (arith, rw (both.0, both.1) at none)),
    )

-- a sum that is finite is one of finite floats
add_finite : (f : Format) (x y : Float) → T (finite (add f x y)) → T (finite x) × T (finite y)
unfolding add
add_finite f nan y h = absurd h
add_finite f (inf s) nan h = absurd h
add_finite f (inf true) (inf true) h = absurd h
add_finite f (inf true) (inf false) h = absurd h
add_finite f (inf false) (inf true) h = absurd h
add_finite f (inf false) (inf false) h = absurd h
add_finite f (inf s) (fin t n d) h = absurd h
add_finite f (fin s m e) nan h = absurd h
add_finite f (fin s m e) (inf t) h = absurd h
add_finite f (fin s m e) (fin t n d) h = (tt, tt)

minus_twice : (f : Format) → add f (minus_zero f) (minus_zero f) ≡ minus_zero f
unfolding of_bits add
minus_twice binary32 = refl
minus_twice binary64 = refl

-- IEEE 754 in round to nearest
pub add_minus : (f : Format) (x y : Float) → T (fits f x) → T (fits f y)
    → (add f x y ≡ minus_zero f) ↔ ((x ≡ minus_zero f) × (y ≡ minus_zero f))
add_minus f x y u v = (
  λ e.
      let F = add_finite f x y (rw e (minus_number f).fini) in
      minus_both (record { fit = u; fini = F.0 }) (record { fit = v; fini = F.1 }) e,
  λ h. rw (h.0, h.1) (minus_twice f),
)

pub add_cancels : (f : Format) (x y : Float) → Number f x → Number f y → value f x +ℤ value f y ≡ pos 0
    → ((x ≡ minus_zero f) × (y ≡ minus_zero f) → ⊥) → add f x y ≡ of_bits f 0
add_cancels f x y X Y s h = by (negative x && negative y) refl
  where
    is : add f x y ≡ nearest_float f (negative x && negative y) (pos 0)
    is = add_nearest f x y X Y ∙ ap (nearest_float f (negative x && negative y)) s

    by : (z : Bool) → (negative x && negative y) ≡ z → add f x y ≡ of_bits f 0
    by true e = absurd (h ((add_minus f x y X.fit Y.fit).0 (is ∙ ap (λ (z : Bool). nearest_float f z (pos 0)) e ∙ minus_nearest f)))
    by false e = is ∙ ap (λ (z : Bool). nearest_float f z (pos 0)) e ∙ plus_nearest f

-- +0 added to a number leaves it, but makes -0 to +0
pub add_plus : {f : Format} {x : Float} → Number f x → add f x (of_bits f 0) ≡ nearest_float f false (value f x)
add_plus {f} {x} X = rw (← (plus_nearest f)) (add_nearest f x plus X number ∙ (λ i. nearest_float f (sign i) (units i)))
  where
    plus : Float
    plus = nearest_float f false (pos 0)

    small : 0 < limit f
    small = omega (arith, power_below f {k = 0} (omega arith))

    number : Number f plus
    number = nearest_number f false (pos 0) small

    none : (s : Bool) → (s && false) ≡ false
    none true = refl
    none false = refl

    sign : (negative x && negative plus) ≡ false
    sign = ap (λ (s : Bool). negative x && s) (nearest_negative f false (pos 0) small) ∙ none (negative x)

    units : value f x +ℤ value f plus ≡ value f x
    units = ap (λ (S : ℤ). value f x +ℤ S) (zero_value f false) ∙ +ℤ_idr (value f x)
