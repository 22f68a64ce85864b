-- What a float that a format holds is in units: a whole number of at most prec bits, below 2 ^ (emax + 1). It is determined by its sign and its units.
-- Assumes nothing.
use Rattle.std.specs.Prelude.{◌≡◌, refl, Bool, true, false, ◌&&◌, cond, not, ℕ, zero, suc, ◌+◌, ◌-◌, ◌*◌, ◌/◌, ◌%◌, ◌^◌, ◌≤◌, ◌<◌, ℤ, pos, negsuc, nat_abs, T}
use Rattle.std.specs.Prelude.{leb, ltb, eqb, Float}
use Rattle.std.proofs.Common.{sym, ap, ◌∙◌, le_of_lt, zero-mul, mul-one, one-mul, mul_assoc, mul_comm, mul_right_comm, mul-div_cancel, mul-lt-mul_of_pos_right}
use Rattle.std.proofs.Common.{lt_of_mul-lt-mul_right, arith, leb→le, ltb→lt, pow-add, pow_pos}
use Rattle.std.proofs.Math.IntN.{pos-ne-negsuc}
use Rattle.std.specs.Float.{nan, inf, fin, Format}
use Rattle.std.specs.Float.Ieee.{prec, emax, low, up, down, size, fits, is_nan, to_bits, of_bits, top, hid}
use Rattle.std.specs.Float.Ieee.Digits.{back}
use Rattle.std.specs.Float.Ieee.Fits.{down_pos, and_l, and_r}
use Rattle.std.specs.Float.Ieee.Scale.{finite, overflow}
use Rattle.std.specs.Float.Ieee.Bits.{of_bits-to_bits}
use Rattle.units.specs.Rounding.{Short}
use Rattle.units.proofs.Powers.{pow_le_back}
use Rattle.ieee.specs.Units.{Is, Number, negative, magnitude, signed, value}

pub is_units : (f : Format) (x : Float) (s : Bool) (n : ℕ) → Is f x s n → (negative x ≡ s) × (magnitude f x ≡ n)
unfolding negative magnitude
is_units f nan s n h = absurd h
is_units f (inf t) s n h = absurd h
is_units f (fin t m e) s n h = (h.0, ap (λ (x : ℕ). x / down e) h.1 ∙ mul-div_cancel n (down_pos e))

pub is_finite : (f : Format) (x : Float) (s : Bool) (n : ℕ) → Is f x s n → T (finite x)
is_finite f nan s n h = h
is_finite f (inf t) s n h = h
is_finite f (fin t m e) s n h = tt

-- so that its bits may be read
pub finite_no_nan : (x : Float) → T (finite x) → T (not (is_nan x))
unfolding is_nan
finite_no_nan nan h = h
finite_no_nan (inf s) h = tt
finite_no_nan (fin s m e) h = tt

-- ---- what `fits` says of a float that is not zero
record Parts (f : Format) (m : ℕ) (e : ℤ) : Type 0 where
  pub small : m < 2 ^ prec f
  pub deep : down e ≤ 2 ^ low f
  pub far : m * up e < 2 ^ suc (emax f) * down e

parts : (f : Format) (s : Bool) (m : ℕ) (e : ℤ) → T (fits f (fin s (suc m) e)) → Parts f (suc m) e
unfolding fits
parts f s m e h =
    let A = eqb (suc m % 2) 1 in
    let B = ltb (suc m) (2 ^ prec f) in
    let C = leb (down e) (2 ^ low f) in
    let D = ltb (suc m * up e) (2 ^ suc (emax f) * down e) in
    record {
      small = ltb→lt (suc m) (2 ^ prec f) (and_r A B (and_l (A && B) C (and_l (A && B && C) D h)));
      deep = leb→le (down e) (2 ^ low f) (and_r (A && B) C (and_l (A && B && C) D h));
      far = ltb→lt (suc m * up e) (2 ^ suc (emax f) * down e) (and_r (A && B && C) D h);
    }

-- 2 ^ e is a whole number of units, 2 ^ j of them
place : (l : ℕ) (e : ℤ) → down e ≤ 2 ^ l → (j : ℕ) × (up e * 2 ^ l ≡ 2 ^ j * down e)
place l (pos a) h = (a + l, sym (pow-add 2 a l) ∙ sym (mul-one (2 ^ (a + l))))
place l (negsuc a) h =
    let g : suc a ≤ l = pow_le_back (suc a) l h in
    (l - suc a, one-mul (2 ^ l) ∙ ap (λ (x : ℕ). 2 ^ x) (sym (back l (suc a) g)) ∙ pow-add 2 (l - suc a) (suc a))

-- ---- the facts
pub record Facts (f : Format) (x : Float) : Type 0 where
  pub is : Is f x (negative x) (magnitude f x)
  pub below : magnitude f x < overflow f
  pub short : Short (prec f) (magnitude f x)

facts_at : (f : Format) (s : Bool) (m : ℕ) (e : ℤ) (n : ℕ) → m * up e * 2 ^ low f ≡ n * down e → n < overflow f → Short (prec f) n → Facts f (fin s m e)
unfolding negative magnitude
facts_at f s m e n h b c =
    let k : m * up e * 2 ^ low f / down e ≡ n = ap (λ (x : ℕ). x / down e) h ∙ mul-div_cancel n (down_pos e) in
    record { is = (refl, h ∙ ap (λ (x : ℕ). x * down e) (sym k)); below = rw k b; short = rw k c }

pub facts : (f : Format) (x : Float) → Number f x → Facts f x
facts f nan X = absurd X.fini
facts f (inf s) X = absurd X.fini
facts f (fin s zero e) X =
    facts_at f s 0 e 0 (ap (λ (x : ℕ). x * 2 ^ low f) (zero-mul (up e)) ∙ zero-mul (2 ^ low f) ∙ sym (zero-mul (down e))) (pow_pos (low f + suc (emax f)))
    (record { exp = 0; sig = 0; is = omega arith; small = omega arith })
facts f (fin s (suc m) e) X = facts_at f s (suc m) e (suc m * 2 ^ j.0) units far (record { exp = j.0; sig = suc m; is = refl; small = le_of_lt p.small })
  where
    p : Parts f (suc m) e
    p = parts f s m e X.fit

    j : (j : ℕ) × (up e * 2 ^ low f ≡ 2 ^ j * down e)
    j = place (low f) e p.deep

    units : suc m * up e * 2 ^ low f ≡ suc m * 2 ^ j.0 * down e
    units = mul_assoc (suc m) (up e) (2 ^ low f) ∙ ap (λ (x : ℕ). suc m * x) j.1 ∙ sym (mul_assoc (suc m) (2 ^ j.0) (down e))

    -- 2 ^ (emax + 1) is `overflow` units
    overflow_is : 2 ^ suc (emax f) * down e * 2 ^ low f ≡ overflow f * down e
    overflow_is =
        mul_right_comm (2 ^ suc (emax f)) (down e) (2 ^ low f)
        ∙ ap (λ (x : ℕ). x * down e) (mul_comm (2 ^ suc (emax f)) (2 ^ low f) ∙ sym (pow-add 2 (low f) (suc (emax f))))

    far : suc m * 2 ^ j.0 < overflow f
    far = lt_of_mul-lt-mul_right (down e) (rw (← units, ← overflow_is) (mul-lt-mul_of_pos_right p.far (pow_pos (low f))))

-- ---- one sign and one number of units are one float
pub bits_are : (f : Format) (x : Float) → T (finite x) →
    to_bits f x ≡ cond (negative x) (top f) 0 + (size (magnitude f x) - prec f) * hid f + magnitude f x / 2 ^ (size (magnitude f x) - prec f)
unfolding negative magnitude to_bits
bits_are f nan t = absurd t
bits_are f (inf s) t = absurd t
bits_are f (fin s m e) t = refl

unique : (f : Format) (x y : Float) → Number f x → Number f y → negative x ≡ negative y → magnitude f x ≡ magnitude f y → x ≡ y
unique f x y X Y s n = sym (of_bits-to_bits f x X.fit) ∙ ap (of_bits f) same ∙ of_bits-to_bits f y Y.fit
  where
    same : to_bits f x ≡ to_bits f y
    same = rw (bits_are f x X.fini, bits_are f y Y.fini, s, n)

-- equal units, and at zero an equal sign
pub same_float : {f : Format} {x y : Float} → Number f x → Number f y → value f x ≡ value f y → (value f x ≡ pos 0 → negative x ≡ negative y) → x ≡ y
unfolding value
same_float {f} {x} {y} X Y e z =
    unique f x y X Y
    (sign (negative x) (magnitude f x) (negative y) (magnitude f y) e z)
    (sym (abs (negative x) (magnitude f x)) ∙ ap nat_abs e ∙ abs (negative y) (magnitude f y))
  where
    abs : (s : Bool) (n : ℕ) → nat_abs (signed s n) ≡ n
    abs false n = refl
    abs true zero = refl
    abs true (suc n) = refl

    sign : (s : Bool) (a : ℕ) (t : Bool) (b : ℕ) → signed s a ≡ signed t b → (signed s a ≡ pos 0 → s ≡ t) → s ≡ t
    sign false a false b e z = refl
    sign true a true b e z = refl
    sign false a true zero e z = z e
    sign false a true (suc b) e z = absurd (pos-ne-negsuc a b e)
    sign true zero false b e z = z refl
    sign true (suc a) false b e z = absurd (pos-ne-negsuc b a (sym e))
