-- Where S is no number of the format, it lies strictly between the nearest and the number of the pattern on its other side, and neither is zero. S isn't
-- beyond the largest number. Assumes nothing.
use Rattle.std.specs.Prelude.{◌≡◌, ◌⊎◌, Bool, true, ℕ, zero, suc, ◌+◌, ◌-◌, ◌*◌, ◌%◌, ◌<◌, ℤ, pos, negsuc, Float}
use Rattle.std.proofs.Common.{sym, subst, ◌∙◌, lt_of_lt_of_le, eq-zero-or-pos, arith}
use Rattle.std.proofs.Math.Path.{ap}
use Rattle.std.proofs.Math.Logic.{inl, inr}
use Rattle.std.proofs.Math.Bool.{false}
use Rattle.std.proofs.Math.IntN.{nat_abs}
use Rattle.std.specs.Float.{Format}
use Rattle.std.specs.Float.Ieee.{prec, hid, ones, top, to_bits}
use Rattle.units.specs.Whole.{Whole, nat, ◌≈◌, ◌≺◌, difference}
use Rattle.units.specs.Rounding.{fl}
use Rattle.units.proofs.Powers.{le_or_lt}
use Rattle.units.proofs.Integers.{mag_difference}
use Rattle.units.proofs.FaithfulLaws.{zero_only, fl_faithful}
use Rattle.ieee.specs.Units.{Number, negative, magnitude, signed_whole, value, whole, sign_of, limit, pattern_units}
use Rattle.ieee.proofs.Rounded.{prec_pos}
use Rattle.ieee.proofs.Overflow.{nearest_negative, nearest_whole}
use Rattle.ieee.proofs.Nearest.{nearest_number, nearest_nearest}
use Rattle.ieee.proofs.Pattern.{no_units, pattern_lt}
use Rattle.ieee.proofs.PatternBounds.{bits_below, bits_units}
use Rattle.grade.specs.Grade.{near, other_side}
use Rattle.grade.proofs.Distances.{is_sum, sum_is, best_distance}
use Rattle.grade.proofs.Neighbours.{signed_bits, pattern_split, signed_number, signed_bits_lem, signed_negative}
use Rattle.grade.proofs.Neighbours.{one_unit, bare_none, next_bare, next_further, gap_up, gap_down}
use Rattle.grade.specs.Amid.{Amid}
use Rattle.grade.proofs.CaseLaws.{side_away, side_back}
use Rattle.grade.specs.SideLaws.{Inside, far, Sides, Beside}
use Rattle.grade.specs.SideLaws.{far_below}
use Rattle.grade.specs.SideLaws.{near_below}

-- a float of magnitude 0, and S of magnitude 0
zero_whole : (f : Format) (x : Float) → magnitude f x ≡ 0 → whole f x ≈ nat 0
unfolding whole
zero_whole f x e = of (negative x) (magnitude f x) e
  where
    of : (s : Bool) (n : ℕ) → n ≡ 0 → signed_whole s n ≈ nat 0
    of false n e = omega arith
    of true n e = omega arith

zero_sum : (S : ℤ) → nat_abs S ≡ 0 → difference S ≈ nat 0
zero_sum S e = omega (arith, mag_difference S)

module _ (f : Format) (S : ℤ) (l : nat_abs S < limit f) where
  -- what zero is nearest to is zero
  pub near_zero : magnitude f (near f S) ≡ 0 → value f (near f S) ≡ S
  near_zero e = is_sum f (near f S) S (omega (arith, zero_only (fl_faithful (prec f) (prec_pos f) (difference S)) none, zero_whole f (near f S) e))
    where
      none : fl (prec f) (difference S) ≈ nat 0
      none = subst (λ (w : Whole). w ≈ nat 0) (nearest_whole f false S l) (zero_whole f (near f S) e)

  -- where the nearest isn't S, no number is
  pub no_number : {x : Float} → Number f x → (value f (near f S) ≡ S → ⊥) → value f x ≡ S → ⊥
  no_number {x} X d e = d (is_sum f (near f S) S (omega (arith, best_distance f (nearest_nearest f false S l) x X, sum_is f x S e)))

  pub near_signed : whole f (near f S) ≡ signed_whole (sign_of false S) (magnitude f (near f S))
  unfolding whole
  near_signed = ap (λ (s : Bool). signed_whole s (magnitude f (near f S))) (nearest_negative f false S l)

  pub near_sum : magnitude f (near f S) ≡ nat_abs S → value f (near f S) ≡ S
  near_sum e = is_sum f (near f S) S (rw (near_signed, e) (of S))
    where
      of : (S : ℤ) → signed_whole (sign_of false S) (nat_abs S) ≈ difference S
      of (pos zero) = omega arith
      of (pos (suc n)) = omega arith
      of (negsuc n) = omega arith

module _ {f : Format} {S : ℤ} (I : Inside f S) where
  N : Number f (near f S)
  N = nearest_number f false S I.below

  -- ---- the other side's pattern, without its sign, is r
  module _ (d : value f (near f S) ≡ S → ⊥) (r : ℕ) (h : r < ones f * hid f) (e : other_side f S ≡ signed_bits f (negative (near f S)) r) where
    far_number : Number f (far f S)
    far_number = rw e (signed_number f (negative (near f S)) r h)

    far_bits : to_bits f (far f S) ≡ other_side f S
    far_bits = rw e (signed_bits_lem f (negative (near f S)) r h)

    far_sign : negative (far f S) ≡ negative (near f S)
    far_sign = rw e (signed_negative f (negative (near f S)) r h)

    far_signed : whole f (far f S) ≡ signed_whole (sign_of false S) (magnitude f (far f S))
    unfolding whole
    far_signed = ap (λ (s : Bool). signed_whole s (magnitude f (far f S))) (far_sign ∙ nearest_negative f false S I.below)

    near_positive : 0 < magnitude f (near f S)
    near_positive = elim (eq-zero-or-pos (magnitude f (near f S))) [ inl z ↦ absurd (d (near_zero f S I.below z)) | inr p ↦ p ]

    -- the other isn't nearer than the nearest, so that S is before it
    amid_up : whole f (near f S) ≺ whole f (far f S) → whole f (near f S) ≺ difference S
        → ((y : Float) → Number f y → whole f (near f S) ≺ whole f y → whole f y ≺ whole f (far f S) → ⊥) → Amid f S (near f S) (far f S)
    amid_up o u none = record {
      lower_number = N;
      upper_number = far_number;
      under = u;
      over = omega (arith, best_distance f (nearest_nearest f false S I.below) (far f S) far_number);
      none = none;
    }

    amid_down : whole f (far f S) ≺ whole f (near f S) → difference S ≺ whole f (near f S)
        → ((y : Float) → Number f y → whole f (far f S) ≺ whole f y → whole f y ≺ whole f (near f S) → ⊥) → Amid f S (far f S) (near f S)
    amid_down o u none = record {
      lower_number = far_number;
      upper_number = N;
      under = omega (arith, best_distance f (nearest_nearest f false S I.below) (far f S) far_number);
      over = u;
      none = none;
    }

    -- away from zero
    beside_away : magnitude f (near f S) < nat_abs S → other_side f S ≡ to_bits f (near f S) + 1 → Beside f S
    beside_away l o = record {
      sides = elim (orders S (magnitude f (near f S)) (magnitude f (far f S)) l further) [
        | inl u ↦
            near_below (amid_up (rw (near_signed f S I.below, far_signed) u.0) (rw (near_signed f S I.below) u.1)
            (λ y Y. gap_up f N far_number far_sign next Y))
        | inr u ↦
            far_below (amid_down (rw (near_signed f S I.below, far_signed) u.0) (rw (near_signed f S I.below) u.1)
            (λ y Y. gap_down f N far_number far_sign next Y))
      ];
      bits = far_bits;
      step = inl next;
      near_some = near_positive;
      far_some = omega (arith, further);
    }
      where
        next : to_bits f (far f S) ≡ to_bits f (near f S) + 1
        next = far_bits ∙ o

        further : magnitude f (near f S) < magnitude f (far f S)
        further = next_further f N far_number far_sign next

        orders : (S : ℤ) (m a : ℕ) → m < nat_abs S → m < a
            → (signed_whole (sign_of false S) m ≺ signed_whole (sign_of false S) a × signed_whole (sign_of false S) m ≺ difference S)
            ⊎ (signed_whole (sign_of false S) a ≺ signed_whole (sign_of false S) m × difference S ≺ signed_whole (sign_of false S) m)
        orders (pos zero) m a h k = absurd (omega arith)
        orders (pos (suc n)) m a h k = inl (omega arith, omega arith)
        orders (negsuc n) m a h k = inr (omega arith, omega arith)

    -- and towards it
    beside_back : nat_abs S < magnitude f (near f S) → to_bits f (near f S) ≡ other_side f S + 1 → Beside f S
    beside_back l o = record {
      sides = sides;
      bits = far_bits;
      step = inr next;
      near_some = near_positive;
      far_some = elim (eq-zero-or-pos (magnitude f (far f S))) [ inl z ↦ absurd (apart z sides) | inr p ↦ p ];
    }
      where
        next : to_bits f (near f S) ≡ to_bits f (far f S) + 1
        next = o ∙ ap (λ (b : ℕ). b + 1) (sym far_bits)

        further : magnitude f (far f S) < magnitude f (near f S)
        further = next_further f far_number N (sym far_sign) next

        orders : (S : ℤ) (m a : ℕ) → nat_abs S < m → a < m
            → (signed_whole (sign_of false S) a ≺ signed_whole (sign_of false S) m × difference S ≺ signed_whole (sign_of false S) m)
            ⊎ (signed_whole (sign_of false S) m ≺ signed_whole (sign_of false S) a × signed_whole (sign_of false S) m ≺ difference S)
        orders (pos zero) m a h k = inl (omega arith, omega arith)
        orders (pos (suc n)) m a h k = inl (omega arith, omega arith)
        orders (negsuc n) m a h k = inr (omega arith, omega arith)

        sides : Sides f S
        sides = elim (orders S (magnitude f (near f S)) (magnitude f (far f S)) l further) [
          | inl u ↦
              far_below (amid_down (rw (near_signed f S I.below, far_signed) u.0) (rw (near_signed f S I.below) u.1)
              (λ y Y. gap_up f far_number N (sym far_sign) next Y))
          | inr u ↦
              near_below (amid_up (rw (near_signed f S I.below, far_signed) u.0) (rw (near_signed f S I.below) u.1)
              (λ y Y. gap_down f far_number N (sym far_sign) next Y))
        ]

        -- the pattern next to zero is one unit, and no S lies between
        one : magnitude f (far f S) ≡ 0 → nat_abs S ≡ 0
        one z =
            let b : to_bits f (near f S) % top f ≡ 1 = next_bare f far_number N (sym far_sign) next ∙ ap (λ (b : ℕ). b + 1) (bare_none f far_number z) in
            omega (arith, l, (bits_units N).1 ∙ ap (pattern_units f) b ∙ one_unit f)

        apart : magnitude f (far f S) ≡ 0 → Sides f S → ⊥
        apart z (near_below A) = omega (arith, A.over, zero_whole f (far f S) z, zero_sum S (one z))
        apart z (far_below A) = omega (arith, A.under, zero_whole f (far f S) z, zero_sum S (one z))

  -- ---- S is no number
  module _ (d : value f (near f S) ≡ S → ⊥) where
    r : ℕ
    r = to_bits f (near f S) % top f

    pub beside : Beside f S
    unfolding r
    beside = elim (le_or_lt (nat_abs S) (magnitude f (near f S))) [
      | inr l ↦
          let o = side_away f S l in
          let g : r < ones f * hid f - 1 = (pattern_lt f).1 (rw (← (bits_units N).1) (lt_of_lt_of_le l I.largest)) in
          beside_away d (r + 1) (omega arith) (o ∙ omega (arith, pattern_split f N)) l o
      | inl l ↦
          let o = side_back f S l in
          let s : nat_abs S < magnitude f (near f S) = omega (arith, unequal) in
          let p : 0 < r = (pattern_lt f).1 (rw (no_units f, ← (bits_units N).1) (omega arith)) in
          let e : other_side f S ≡ signed_bits f (negative (near f S)) (r - 1) = o ∙ omega (arith, pattern_split f N) in
          beside_back d (r - 1) (omega (arith, bits_below N)) e s (omega (arith, o, pattern_split f N))
    ]
      where
        unequal : nat_abs S ≡ magnitude f (near f S) → ⊥
        unequal e = d (near_sum f S I.below (sym e))
