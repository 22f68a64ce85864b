-- Two finite patterns are of one number where they are equal, or both are zeros; and a finite pattern below 2 ^ 64 has one above it. Assumes nothing.
use mathlib.Core.Path.{◌≡◌, sym, ap, ◌∙◌}
use mathlib.Core.Logic.{inl, inr}
use mathlib.Core.Bool.{Bool, true, false, ◌&&◌, ◌||◌}
use Prim.Native.Nat.{ℕ, ◌+◌, ◌*◌, ◌%◌, ◌^◌, ◌<◌}
use native.Mathlib.Nat.{eq-zero-or-pos}
use native.Mathlib.Omega.{arith}
use lib.Dec.{T, eqb, eqb→eq, ltb→lt}
use lib.IntN.{pos, ◌-ℤ◌, nat_abs}
use lib.Ieee.{Float, Format, binary64, hid, ones, top, of_bits, to_bits}
use lib.Ieee.Fits.{eq→eqb}
use lib.Ieee.Bits.{of_bits-fits, to_bits-of_bits}
use lib.Ieee.Scale.{finite}
use Rattle.ieee.specs.Units.{Number, magnitude, value, pattern_units}
use Rattle.ieee.proofs.Finite.{finite_no_nan, same_float}
use Rattle.ieee.proofs.Fractions.{same_test}
use Rattle.ieee.proofs.Pattern.{no_units, pattern_finite}
use Rattle.ieee.proofs.PatternBounds.{bits_units}
use Rattle.ieee.proofs.Sum.{value_mag}
use Rattle.grade.proofs.Distances.{not_apart, apart_none}
use Rattle.grade.proofs.Neighbours.{bare_none}
use Rattle.grade.proofs.GradeLaws.{zero_value}

pub above_finite : {p : ℕ} → p < 2 ^ 64 → T (finite (of_bits binary64 p)) → p + 1 < 2 ^ 64
above_finite {p} h t =
    let l : p % 2 ^ 63 < 0x7FF0000000000000 = ltb→lt (p % top binary64) (ones binary64 * hid binary64) (rw (pattern_finite binary64 p) at t) in
    omega arith

module _ (f : Format) where
  module _ (p : ℕ) (h : p < 2 * top f) (t : T (finite (of_bits f p))) where
    pub number_of : Number f (of_bits f p)
    number_of = record { fit = of_bits-fits f p; fini = t }

    pub bits_of : to_bits f (of_bits f p) ≡ p
    bits_of = to_bits-of_bits f p h (finite_no_nan (of_bits f p) t)

    zero_rest : magnitude f (of_bits f p) ≡ 0 → p % top f ≡ 0
    zero_rest z = rw bits_of at (bare_none f number_of z)

    rest_zero : p % top f ≡ 0 → magnitude f (of_bits f p) ≡ 0
    rest_zero e = (bits_units number_of).1 ∙ ap (λ (b : ℕ). pattern_units f (b % top f)) bits_of ∙ ap (pattern_units f) e ∙ no_units f

  either : {A : Type 0} (a b c : Bool) → (T a → A) → (T b → T c → A) → T (a || (b && c)) → A
  either true b c f g t = f tt
  either false true true f g t = g tt tt
  either false true false f g t = absurd t
  either false false c f g t = absurd t

  left : (a b c : Bool) → T a → T (a || (b && c))
  left true b c t = tt
  left false b c t = absurd t

  right : (a b c : Bool) → T b → T c → T (a || (b && c))
  right true b c s t = tt
  right false true true s t = tt
  right false true false s t = absurd t
  right false false c s t = absurd s

  pub one_number : (p q : ℕ) → p < 2 * top f → q < 2 * top f → T (finite (of_bits f p)) → T (finite (of_bits f q))
      → (eqb p q || (eqb (p % top f) 0 && eqb (q % top f) 0)) ≡ eqb (nat_abs (value f (of_bits f p) -ℤ value f (of_bits f q))) 0
  one_number p q h k s t = same_test (a || (b && c)) (eqb d 0) (λ u. eq→eqb (there u)) (λ u. back (eqb→eq d 0 u))
    where
      a : Bool
      a = eqb p q

      b : Bool
      b = eqb (p % top f) 0

      c : Bool
      c = eqb (q % top f) 0

      x : Float
      x = of_bits f p

      y : Float
      y = of_bits f q

      d : ℕ
      d = nat_abs (value f x -ℤ value f y)

      there : T (a || (b && c)) → d ≡ 0
      there = either a b c (λ u. apart_none f x (value f y) (ap (λ (r : ℕ). value f (of_bits f r)) (eqb→eq p q u)))
          (λ u v. apart_none f x (value f y)
          (zero_value f x (rest_zero p h s (eqb→eq (p % top f) 0 u)) ∙ sym (zero_value f y (rest_zero q k t (eqb→eq (q % top f) 0 v)))))

      back : d ≡ 0 → T (a || (b && c))
      back z =
          let e : value f x ≡ value f y = not_apart f x (value f y) z in
          elim (eq-zero-or-pos (magnitude f y)) [
            | inl m ↦
                let n : magnitude f x ≡ 0 = sym (value_mag f x) ∙ ap nat_abs e ∙ value_mag f y ∙ m in
                right a b c (eq→eqb (zero_rest p h s n)) (eq→eqb (zero_rest q k t m))
            | inr m ↦
                let some : value f x ≡ pos 0 → ⊥ = λ o. omega (arith, sym (value_mag f y) ∙ ap nat_abs (sym e ∙ o)) in
                let one : x ≡ y = same_float (number_of p h s) (number_of q k t) e (λ o. absurd (some o)) in
                left a b c (eq→eqb (sym (bits_of p h s) ∙ ap (to_bits f) one ∙ bits_of q k t))
          ]
