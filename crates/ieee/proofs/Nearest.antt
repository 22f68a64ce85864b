-- lib.Ieee's rounding of S units is the number of the format that is nearest to S: no other is nearer, and at a tie the significand is even. Assumes
-- nothing.
use Rattle.std.specs.Prelude.{◌≡◌, Bool, true, false, cond, ℤ, ◌-ℤ◌, Float}
use Rattle.std.proofs.Common.{sym, ap, ◌∙◌, mul_assoc, arith, lt→ltb, pow_pos}
use Prim.Native.Nat.{ℕ, suc, ◌+◌, ◌-◌, ◌*◌, ◌%◌, ◌^◌, ◌≤◌, ◌<◌}
use Rattle.std.proofs.Math.Nat.{mul-sub, eq_of_mul-eq-mul_right, pow-succ'}
use Rattle.std.proofs.Math.IntN.{nat_abs}
use Rattle.std.specs.Float.{Format}
use Rattle.std.specs.Float.Ieee.{prec, hid, ones, top, to_bits}
use Rattle.std.specs.Float.Ieee.Fits.{two}
use Rattle.std.specs.Float.Ieee.Nearest.{closest}
use Rattle.units.specs.Whole.{◌⊖◌, ◌≈◌, mag, Multiple, int, difference}
use Rattle.units.specs.Rounding.{dropped, rnd, fl, Representable}
use Rattle.units.proofs.Powers.{pow_pred}
use Rattle.units.proofs.NaturalRounding.{rnd_is}
use Rattle.units.proofs.SignedRounding.{rep_neg, short_rep, fl_best}
use Rattle.units.proofs.Ties.{fl_tie}
use Rattle.units.proofs.Integers.{int_same, int_minus, int_mag, int_difference, mag_difference}
use Rattle.ieee.specs.Units.{Number, negative, magnitude, signed_whole, value, whole, sign_of, nearest_float, limit}
use Rattle.ieee.specs.Accuracy.{NearestTo}
use Rattle.ieee.proofs.Finite.{is_units, facts}
use Rattle.ieee.proofs.Rounded.{prec_pos}
use Rattle.ieee.proofs.Sum.{value_int}
use Rattle.ieee.proofs.WrittenBits.{round_bits}
use Rattle.ieee.proofs.Overflow.{rnd_finite, nearest_round, nearest_fits, nearest_finite, nearest_is, nearest_whole}

-- a number of the format has prec bits
pub number_rep : {f : Format} {x : Float} → Number f x → Representable (prec f) (whole f x)
unfolding whole
number_rep {f} {x} X = signed (negative x)
  where
    signed : (s : Bool) → Representable (prec f) (signed_whole s (magnitude f x))
    signed false = short_rep (facts f x X).short
    signed true = rep_neg (short_rep (facts f x X).short)

-- how far a float is from S
distance : (f : Format) (x : Float) (S : ℤ) → nat_abs (value f x -ℤ S) ≡ mag (whole f x ⊖ difference S)
distance f x S =
    (λ i. nat_abs (value_int f x i -ℤ sym (int_difference S) i))
    ∙ ap nat_abs (sym (int_minus (whole f x) (difference S)))
    ∙ int_mag (whole f x ⊖ difference S)

-- ---- the last digit of a pattern is that of the rounded quotient

natural_multiple : (s : Bool) (k m : ℕ) → Multiple k (signed_whole s m) → (v : ℕ) × (m ≡ v * 2 ^ k)
natural_multiple false k m A = (A.count.up - A.count.dn, omega (arith, A.is, mul-sub (2 ^ k) A.count.up A.count.dn))
natural_multiple true k m A = (A.count.dn - A.count.up, omega (arith, A.is, mul-sub (2 ^ k) A.count.dn A.count.up))

last_digit : (f : Format) (s : Bool) (k v : ℕ) → (cond s (top f) 0 + (k * hid f + 2 * v)) % 2 ≡ 0
last_digit f s k v = rw (sign s, field) (halves (cond s (h * suc (ones f)) 0) (k * h))
  where
    h : ℕ
    h = 2 ^ (prec f - 1 - 1)

    even : 2 * h ≡ hid f
    even = pow_pred (omega (arith, two f))

    field : k * hid f ≡ 2 * (k * h)
    field = rw (← even) (omega arith)

    sign : (s : Bool) → cond s (top f) 0 ≡ 2 * cond s (h * suc (ones f)) 0
    sign true = rw (← even) (mul_assoc 2 h (suc (ones f)))
    sign false = omega arith

    halves : (a b : ℕ) → (2 * a + (2 * b + 2 * v)) % 2 ≡ 0
    halves a b = omega arith

module _ (f : Format) (z : Bool) (S : ℤ) (l : nat_abs S < limit f) where
  pub nearest_number : Number f (nearest_float f z S)
  nearest_number = record { fit = nearest_fits f z S; fini = rw (nearest_finite f z S) (lt→ltb (nat_abs S) (limit f) l) }

  best : (y : Float) → Number f y → nat_abs (value f (nearest_float f z S) -ℤ S) ≤ nat_abs (value f y -ℤ S)
  best y Y = rw (distance f (nearest_float f z S) S, distance f y S, nearest_whole f z S l) near
    where
      near : mag (fl (prec f) (difference S) ⊖ difference S) ≤ mag (whole f y ⊖ difference S)
      near = omega (arith, fl_best (prec f) (prec_pos f) (difference S) (mag (whole f y ⊖ difference S)) (number_rep Y) (omega arith))

  -- the rounded quotient is even where the rounding is a multiple of twice its last place
  even_pattern : Multiple (suc (dropped (prec f) (nat_abs S))) (whole f (nearest_float f z S)) → to_bits f (nearest_float f z S) % 2 ≡ 0
  unfolding whole
  even_pattern A =
      rw (nearest_round f z S, round_bits f (sign_of z S) n (rnd_finite f l), quotient) (last_digit f (sign_of z S) k v.0)
    where
      n : ℕ
      n = nat_abs S

      k : ℕ
      k = dropped (prec f) (nat_abs S)

      v : (v : ℕ) × (magnitude f (nearest_float f z S) ≡ v * 2 ^ suc k)
      v = natural_multiple (negative (nearest_float f z S)) (suc k) (magnitude f (nearest_float f z S)) A

      rounded : magnitude f (nearest_float f z S) ≡ rnd (prec f) n
      rounded = (is_units f (nearest_float f z S) (sign_of z S) (rnd (prec f) n) (nearest_is f z S l)).1

      quotient : closest n (2 ^ k) ≡ 2 * v.0
      quotient =
          eq_of_mul-eq-mul_right (2 ^ k) (pow_pos k) (closest n (2 ^ k)) (2 * v.0)
          (sym (rnd_is (prec f) n) ∙ sym rounded ∙ v.1 ∙ rw (pow-succ' 2 k) (omega arith))

  pub nearest_nearest : NearestTo f S (nearest_float f z S)
  nearest_nearest = record { number = nearest_number; best = best; tie = tie }
    where
      same : (y : Float) → whole f y ≈ fl (prec f) (difference S) → value f y ≡ value f (nearest_float f z S)
      same y e =
          value_int f y
          ∙ int_same (whole f y) (fl (prec f) (difference S)) e
          ∙ ap int (sym (nearest_whole f z S l))
          ∙ sym (value_int f (nearest_float f z S))

      tie : (y : Float) → Number f y → nat_abs (value f y -ℤ S) ≡ nat_abs (value f (nearest_float f z S) -ℤ S)
          → (value f y ≡ value f (nearest_float f z S) → ⊥) → to_bits f (nearest_float f z S) % 2 ≡ 0
      tie y Y e d = even_pattern (rw (nearest_whole f z S l, ← (mag_difference S)) tied)
        where
          apart : mag (whole f y ⊖ difference S) ≡ mag (fl (prec f) (difference S) ⊖ difference S)
          apart = rw (distance f y S, distance f (nearest_float f z S) S, nearest_whole f z S l) at e

          tied : Multiple (suc (dropped (prec f) (mag (difference S)))) (fl (prec f) (difference S))
          tied = fl_tie (prec f) (prec_pos f) (difference S) (whole f y) (number_rep Y) apart (λ i. d (same y i))
