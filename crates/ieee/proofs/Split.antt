-- Split in floats is Split in units: where a factor is far enough from underflow and overflow, nothing overflows, and its halves are numbers of the format
-- whose units are the halves of its units. Assumes nothing.
use Rattle.std.specs.Prelude.{◌≡◌, refl, Bool, true, false, ℕ, suc, ◌+◌, ◌-◌, ◌*◌, ◌^◌, ◌≤◌, ◌<◌, Float}
use Rattle.std.proofs.Common.{sym, ◌∙◌, inl, inr, le_of_lt, one-mul, mul-le-mul_left, mul-le-mul_right, eq-zero-or-pos, arith, lit<, lit≤, pow-add, pow_pos}
use Rattle.std.proofs.Common.{pow_mono}
use Rattle.std.proofs.Math.Nat.{pow-succ'}
use Rattle.std.specs.Float.{Format, binary32, binary64}
use Rattle.std.specs.Float.Ieee.{prec, low, unlike, of_bits, mul}
use Rattle.std.specs.Float.Ieee.Fits.{two, reach}
use Rattle.std.specs.Float.Ieee.Nearest.{closest}
use Rattle.units.specs.Whole.{Whole, nat, ◌⊗◌, ◌⊙◌, ◌≈◌, Within, Multiple}
use Rattle.units.proofs.NaturalRounding.{exact, rnd_is, dropped_lt, dropped_ge, dropped_half}
use Rattle.units.proofs.Multiples.{multiple_neg}
use Rattle.units.proofs.Products.{nat_times}
use Rattle.units.specs.Split as Units
use Rattle.units.specs.Split.{LastPlace, Halves, multiplied}
use Rattle.units.proofs.Split.{split}
use Rattle.ieee.specs.Units.{Is, Between, RoundedTo, Number, negative, magnitude, signed_whole, whole}
use Rattle.ieee.specs.ErrorFree.{half_prec, splitter, upper_half, lower_half, Room}
use Rattle.ieee.proofs.Finite.{is_units, facts}
use Rattle.ieee.proofs.Rounded.{prec_pos}
use Rattle.ieee.proofs.Sum.{whole_mag}
use Rattle.ieee.proofs.PatternBounds.{pattern_number}
use Rattle.ieee.proofs.InRange.{capped}
use Rattle.ieee.specs.Scaled.{Scaled}
use Rattle.ieee.proofs.Scaled.{mul_rounds, sub_scaled}
use Rattle.ieee.specs.Split.{last_place}

-- ---- half of the precision, and the splitter: 2 ^ halfPrec + 1
pub half_least : (f : Format) → prec f ≤ half_prec f + half_prec f
half_least binary32 = lit≤ tt
half_least binary64 = lit≤ tt

pub half_most : (f : Format) → half_prec f + half_prec f ≤ prec f + 2
half_most binary32 = lit≤ tt
half_most binary64 = lit≤ tt

pub half_less : (f : Format) → half_prec f < prec f
half_less binary32 = lit< tt
half_less binary64 = lit< tt

splitter_is : (f : Format) → Is f (splitter f) false (suc (2 ^ half_prec f) * 2 ^ low f)
unfolding of_bits
splitter_is binary32 = (refl, refl)
splitter_is binary64 = (refl, refl)

splitter_number : (f : Format) → Number f (splitter f)
splitter_number binary32 = pattern_number binary32 0x45800800 (lit< tt)
splitter_number binary64 = pattern_number binary64 0x41A0000002000000 (lit< tt)

splitter_whole : (f : Format) → whole f (splitter f) ≡ nat (suc (2 ^ half_prec f) * 2 ^ low f)
unfolding whole
splitter_whole f =
    let u = is_units f (splitter f) false (suc (2 ^ half_prec f) * 2 ^ low f) (splitter_is f) in
    λ i. signed_whole (u.0 i) (u.1 i)

number_on : {f : Format} {a : Float} → Number f a → Multiple (last_place f a) (whole f a)
unfolding whole
number_on {f} {a} A = signed (negative a)
  where
    natural : Multiple (last_place f a) (nat (magnitude f a))
    natural = record {
      count = nat (closest (magnitude f a) (2 ^ last_place f a));
      is = omega (arith, rnd_is (prec f) (magnitude f a), exact (prec f) (prec_pos f) (facts f a A).short);
    }

    signed : (s : Bool) → Multiple (last_place f a) (signed_whole s (magnitude f a))
    signed false = natural
    signed true = multiple_neg natural

module _ {f : Format} {l h : ℕ} {a : Float} (R : Room f l h) (A : Between f l h a) where
  -- 2 ^ (l + 1) is 2 ^ prec times a place
  far : 2 ^ prec f * 2 ^ (suc l - prec f) ≤ 2 * magnitude f a
  far = rw (← (pow-add 2 (prec f) (suc l - prec f)), all, pow-succ' 2 l) (mul-le-mul_left 2 A.least)
    where
      all : prec f + (suc l - prec f) ≡ suc l
      all = omega (arith, R.above, two f, reach f)

  pub place_least : suc l ≤ prec f + last_place f a
  place_least = omega (arith, dropped_ge (prec f) (magnitude f a) far)

  pub last_place_lem : LastPlace (prec f) (last_place f a) (whole f a)
  last_place_lem = record {
    on = number_on A.number;
    least = rw (whole_mag f a) (elim (eq-zero-or-pos (last_place f a)) [
      | inl e ↦ rw e (omega (arith, far, mul-le-mul_left (2 ^ prec f) (pow_pos (suc l - prec f))))
      | inr g ↦ dropped_half (prec f) (magnitude f a) g
    ]);
    most = rw (whole_mag f a) (dropped_lt (prec f) (magnitude f a));
  }

  -- ---- the two halves: nothing passes 2 ^ (h + halfPrec + 4)
  within : Within (whole f a) (2 ^ h)
  within = omega (arith, whole_mag f a, A.most)

  room : Within (suc (2 ^ half_prec f) ⊗ whole f a) (2 ^ (h + half_prec f + 1))
  room =
      rw (pow-add 2 (h + half_prec f) 1, pow-add 2 h (half_prec f))
      (part (whole f a).up (whole f a).dn within.0, part (whole f a).dn (whole f a).up within.1)
    where
      part : (x y : ℕ) → x ≤ y + 2 ^ h → suc (2 ^ half_prec f) * x ≤ suc (2 ^ half_prec f) * y + 2 ^ h * 2 ^ half_prec f * 2 ^ 1
      part x y g = omega (arith, mul-le-mul_left (suc (2 ^ half_prec f)) g, mul-le-mul_left (2 ^ h) (pow_pos (half_prec f)))

  one : (w : Whole) → 2 ^ 0 ⊗ w ≡ w
  one w = λ i. record { up = one-mul w.up i; dn = one-mul w.dn i }

  factor : Scaled f 0 h (whole f a) a
  factor = record { number = A.number; units = one (whole f a); small = within }

  multiple : Scaled f 0 (h + half_prec f + 1) (multiplied (prec f) (half_prec f) (whole f a)) (mul f (splitter f) a)
  multiple = record {
    number = M.number;
    units = one (whole f (mul f (splitter f) a)) ∙ M.units;
    small = capped f (suc (2 ^ half_prec f) ⊗ whole f a) (h + half_prec f + 1) room;
  }
    where
      z : Whole
      z = suc (2 ^ half_prec f) ⊗ whole f a

      times : (k l : ℕ) (w : Whole) → nat (k * l) ⊙ w ≈ l ⊗ (k ⊗ w)
      times k l w = omega (arith, nat_times (k * l) w)

      is : whole f (splitter f) ⊙ whole f a ≈ 2 ^ low f ⊗ z
      is = rw (splitter_whole f) (times (suc (2 ^ half_prec f)) (2 ^ low f) (whole f a))

      M : RoundedTo f (unlike (negative (splitter f)) (negative a)) z (mul f (splitter f) a)
      M = mul_rounds (splitter_number f) A.number z is (h + half_prec f + 1) (omega (arith, R.split)) room

  upper_scaled : Scaled f 0 (h + half_prec f + 3) (Units.upper_half (prec f) (half_prec f) (whole f a)) (upper_half f a)
  unfolding upper_half
  upper_scaled =
      sub_scaled {i = h + half_prec f + 1} {j = h + half_prec f + 2} (omega arith) (omega arith) (omega (arith, R.split)) multiple
      (sub_scaled (omega arith) (omega arith) (omega (arith, R.split)) multiple factor)

  lower_scaled : Scaled f 0 (h + half_prec f + 4) (Units.lower_half (prec f) (half_prec f) (whole f a)) (lower_half f a)
  unfolding lower_half
  lower_scaled = sub_scaled (omega arith) (omega arith) (omega (arith, R.split)) factor upper_scaled

  upper_units : whole f (upper_half f a) ≡ Units.upper_half (prec f) (half_prec f) (whole f a)
  upper_units = sym (one (whole f (upper_half f a))) ∙ upper_scaled.units

  lower_units : whole f (lower_half f a) ≡ Units.lower_half (prec f) (half_prec f) (whole f a)
  lower_units = sym (one (whole f (lower_half f a))) ∙ lower_scaled.units

  -- ---- so they are the halves of a
  pub upper_number : Number f (upper_half f a)
  upper_number = upper_scaled.number

  pub lower_number : Number f (lower_half f a)
  lower_number = lower_scaled.number

  pub halves : Halves (prec f) (half_prec f) (last_place f a) (whole f a) (whole f (upper_half f a)) (whole f (lower_half f a))
  halves = rw (upper_units, lower_units) (split (prec f) (half_prec f) (last_place f a) (half_less f) (whole f a) last_place_lem)

  -- and at most twice as large
  twice : 2 ^ prec f * 2 ^ last_place f a ≤ 2 ^ suc h
  twice = rw (pow-succ' 2 h) (omega (arith, last_place_lem.least, whole_mag f a, A.most))

  pub upper_small : Within (whole f (upper_half f a)) (2 ^ suc h)
  upper_small = omega (arith, halves.upper_small, twice)

  pub lower_small : Within (whole f (lower_half f a)) (2 ^ suc h)
  lower_small = omega (arith, halves.lower_small, twice, mul-le-mul_right (2 ^ last_place f a) (pow_mono (le_of_lt (half_less f))))
