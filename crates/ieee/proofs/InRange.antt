-- Sums and differences that stay within 2 ^ emax do not overflow: in units they are the exact ones, rounded to prec bits, and a zero is -0 only where IEEE
-- 754 has it so. The walk's extraction in floats is its extraction in units. Assumes nothing.
use Rattle.std.specs.Prelude.{◌≡◌, Bool, not, ◌&&◌, ℕ, ◌+◌, ◌*◌, ◌^◌, ◌≤◌, ◌<◌, nat_abs, Float}
use Rattle.std.proofs.Common.{sym, ap, ◌∙◌, mul_comm, arith, pow-add}
use Rattle.std.specs.Float.{Format}
use Rattle.std.specs.Float.Ieee.{prec, emax, low, add, sub}
use Rattle.units.specs.Whole.{Whole, nat, ◌⊕◌, ◌⊖◌, Within, int, difference}
use Rattle.units.specs.Rounding.{fl}
use Rattle.units.specs.Walk.{high}
use Rattle.units.proofs.SignedRounding.{rep_pow, fl_same, fl_within}
use Rattle.units.proofs.Integers.{int_is, int_plus, int_minus, int_mag}
use Rattle.ieee.specs.Units.{RoundedTo, Number, negative, whole, nearest_float, limit}
use Rattle.ieee.proofs.Rounded.{prec_pos}
use Rattle.ieee.proofs.Sum.{value_int, add_nearest, sub_nearest}
use Rattle.ieee.proofs.Overflow.{power_below, nearest_negative, nearest_whole}
use Rattle.ieee.proofs.Nearest.{nearest_number}

-- rounding does not pass a power of two
pub capped : (f : Format) (z : Whole) (j : ℕ) → Within z (2 ^ j) → Within (fl (prec f) z) (2 ^ j)
capped f z j h = fl_within (prec f) (prec_pos f) z (rep_pow (prec f) j) h

-- the float nearest to z units, of magnitude at most 2 ^ k
module _ (f : Format) (k : ℕ) (K : k ≤ low f + emax f) where
  pub nearest_rounds : (s : Bool) (z : Whole) → Within z (2 ^ k) → RoundedTo f s z (nearest_float f s (int z))
  nearest_rounds s z h = record {
    number = nearest_number f s (int z) small;
    units = nearest_whole f s (int z) small ∙ fl_same (prec f) (difference (int z)) z (sym (int_is z));
    sign = nearest_negative f s (int z) small;
  }
    where
      small : nat_abs (int z) < limit f
      small = omega (arith, int_mag z, power_below f K)

module _ {f : Format} {x y : Float} (X : Number f x) (Y : Number f y) (k : ℕ) (K : k ≤ low f + emax f) where
  pub add_rounds : Within (whole f x ⊕ whole f y) (2 ^ k) → RoundedTo f (negative x && negative y) (whole f x ⊕ whole f y) (add f x y)
  add_rounds h = rw (add_nearest f x y X Y, value_int f x, value_int f y, ← (int_plus (whole f x) (whole f y)))
      (nearest_rounds f k K (negative x && negative y) (whole f x ⊕ whole f y) h)

  pub sub_rounds : Within (whole f x ⊖ whole f y) (2 ^ k) → RoundedTo f (negative x && not (negative y)) (whole f x ⊖ whole f y) (sub f x y)
  sub_rounds h = rw (sub_nearest f x y X Y, value_int f x, value_int f y, ← (int_minus (whole f x) (whole f y)))
      (nearest_rounds f k K (negative x && not (negative y)) (whole f x ⊖ whole f y) h)

-- ---- one extraction: sigma is 2 ^ k units and x is no larger, so nothing passes 2 ^ (k + 3) units
module _ {f : Format} {sigma x : Float} (S : Number f sigma) (X : Number f x) (k : ℕ) (K : k + 3 ≤ low f + emax f) (power : whole f sigma ≡ nat (2 ^ k))
    (small : Within (whole f x) (2 ^ k)) where
  raised : RoundedTo f (negative sigma && negative x) (whole f sigma ⊕ whole f x) (add f sigma x)
  raised = add_rounds S X (k + 1) (omega arith) (rw (power, pow-add 2 k 1) (omega (arith, small)))

  raised_units : whole f (add f sigma x) ≡ fl (prec f) (nat (2 ^ k) ⊕ whole f x)
  raised_units = raised.units ∙ ap (λ (s : Whole). fl (prec f) (s ⊕ whole f x)) power

  raised_small : Within (fl (prec f) (nat (2 ^ k) ⊕ whole f x)) (2 * 2 ^ k)
  raised_small = rw (pow-add 2 k 1, mul_comm (2 ^ k) 2) at (capped f (nat (2 ^ k) ⊕ whole f x) (k + 1) (rw (pow-add 2 k 1) (omega (arith, small))))

  pub high_rounds : RoundedTo f (negative (add f sigma x) && not (negative sigma)) (fl (prec f) (nat (2 ^ k) ⊕ whole f x) ⊖ nat (2 ^ k))
      (sub f (add f sigma x) sigma)
  high_rounds = rw (raised_units, power) at
      (sub_rounds raised.number S (k + 2) (omega arith) (rw (raised_units, power, pow-add 2 k 2) (omega (arith, raised_small))))

  high_small : Within (high (prec f) k (whole f x)) (4 * 2 ^ k)
  high_small = rw (pow-add 2 k 2, mul_comm (2 ^ k) 4) at
      (capped f (fl (prec f) (nat (2 ^ k) ⊕ whole f x) ⊖ nat (2 ^ k)) (k + 2) (rw (pow-add 2 k 2) (omega (arith, raised_small))))

  pub remainder_rounds : RoundedTo f (negative x && not (negative (sub f (add f sigma x) sigma))) (whole f x ⊖ high (prec f) k (whole f x))
      (sub f x (sub f (add f sigma x) sigma))
  remainder_rounds = rw high_rounds.units at
      (sub_rounds X high_rounds.number (k + 3) K (rw (high_rounds.units, pow-add 2 k 3) (omega (arith, small, high_small))))
