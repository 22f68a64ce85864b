-- The comparisons of two finite floats are those of their units. Assumes nothing.
use Rattle.std.specs.Prelude.{◌≡◌, refl, ◌↔◌, Bool, true, false, ◌&&◌, ◌||◌, ℕ, zero, suc, ◌+◌, ◌*◌, ◌<◌, T, leb, ltb, eqb, ◌≤ℤ◌, ◌<ℤ◌, Float}
use Rattle.std.proofs.Common.{sym, ◌∙◌, zero-le, add-mul, zero-mul, add-zero, zero-add, add_comm, arith, leb→le, le→leb, ltb→lt, lt→ltb, eqb→eq}
use Rattle.std.proofs.Math.Bool.{and-true}
use Rattle.std.proofs.Math.Dec.{leb-zero, leb-suc-zero, leb-suc-suc, eqb-suc-zero, eqb-suc-suc}
use Rattle.std.proofs.Math.Arith.{le→nltb}
use Rattle.std.specs.Float.{Format}
use Rattle.std.specs.Float.Ieee.{lt, le, eq, below, level}
use Rattle.std.specs.Float.Ieee.Fits.{eq→eqb, and_i, and_l, and_r}
use Rattle.std.specs.Float.Ieee.Bits.{is_false}
use Rattle.units.specs.Whole.{Whole, int}
use Rattle.units.proofs.Integers.{int_same, int_back, int_le, int_lt}
use Rattle.ieee.specs.Units.{Number, negative, magnitude, signed_whole, value, whole}
use Rattle.ieee.proofs.Fractions.{same_test, eqb_same, eqb_scale, ltb_scale, over_units}
use Rattle.ieee.proofs.Sum.{value_int}

-- ---- the tests for a ≺ b, a ≼ b and a ≈ b
abbrev is_less : Whole → Whole → Bool
is_less a b = ltb (a.up + b.dn) (b.up + a.dn)

abbrev is_at_most : Whole → Whole → Bool
is_at_most a b = leb (a.up + b.dn) (b.up + a.dn)

abbrev is_same : Whole → Whole → Bool
is_same a b = eqb (a.up + b.dn) (b.up + a.dn)

module _ (a b : Whole) where
  less : T (is_less a b) ↔ int a <ℤ int b
  less = (λ t. (int_lt a b).0 (ltb→lt (a.up + b.dn) (b.up + a.dn) t), λ h. lt→ltb (a.up + b.dn) (b.up + a.dn) ((int_lt a b).1 h))

  at_most_lem : T (is_at_most a b) ↔ int a ≤ℤ int b
  at_most_lem = (λ t. (int_le a b).0 (leb→le (a.up + b.dn) (b.up + a.dn) t), λ h. le→leb (a.up + b.dn) (b.up + a.dn) ((int_le a b).1 h))

  same : T (is_same a b) ↔ int a ≡ int b
  same = (λ t. int_same a b (eqb→eq (a.up + b.dn) (b.up + a.dn) t), λ e. eq→eqb (int_back a b e))

-- ---- reduced fractions
below_scale : (s t : Bool) (a b c k : ℕ) → 0 < c → 0 < k → below s (a * k) t (b * k) ≡ below s a t b
below_scale false false a b c k C K = ltb_scale a b K
below_scale false true a b c k C K = refl
below_scale true false a b c k C K = rw (← (add-mul a b k)) (rw zero-mul at (ltb_scale 0 (a + b) K))
below_scale true true a b c k C K = ltb_scale b a K

level_scale : (s t : Bool) (a b c k : ℕ) → 0 < c → 0 < k → level s (a * k) t (b * k) ≡ level s a t b
level_scale s t a b c k C K = rw (eqb_scale a b K, rw zero-mul at (eqb_scale a 0 K))

-- ---- signs and magnitudes
below_is : (s : Bool) (a : ℕ) (t : Bool) (b : ℕ) → below s a t b ≡ is_less (signed_whole s a) (signed_whole t b)
below_is false a false b = rw (add-zero a, add-zero b)
below_is false a true b = sym (is_false (ltb (a + b) 0) (le→nltb (a + b) 0 zero-le))
below_is true a false b = rw (add_comm a b)
below_is true a true b = rw (zero-add a, zero-add b)

zeros : (a b c d : ℕ) → (a ≡ b → a ≡ 0 → c ≡ d) → (c ≡ d → (a ≡ b) × (a ≡ 0)) → (eqb a b && eqb a 0) ≡ eqb c d
zeros a b c d h k =
    same_test (eqb a b && eqb a 0) (eqb c d)
    (λ t. eq→eqb (h (eqb→eq a b (and_l (eqb a b) (eqb a 0) t)) (eqb→eq a 0 (and_r (eqb a b) (eqb a 0) t))))
    (λ t. let e = k (eqb→eq c d t) in and_i (eqb a b) (eqb a 0) (eq→eqb e.0) (eq→eqb e.1))

level_is : (s : Bool) (a : ℕ) (t : Bool) (b : ℕ) → level s a t b ≡ is_same (signed_whole s a) (signed_whole t b)
level_is false a false b = rw (and-true (eqb a b), add-zero a, add-zero b)
level_is false a true b = zeros a b (a + b) 0 (omega arith) (omega arith)
level_is true a false b = zeros a b 0 (b + a) (omega arith) (omega arith)
level_is true a true b = and-true (eqb a b) ∙ eqb_same a b (0 + b) (0 + a) (omega arith) (omega arith)

or_leb : (a b : ℕ) → (ltb a b || eqb a b) ≡ leb a b
or_leb zero zero = refl
or_leb zero (suc b) = rw (leb-suc-suc 0 b, leb-zero b, leb-zero (suc b))
or_leb (suc a) zero = rw (leb-suc-zero (suc a), leb-suc-zero a, eqb-suc-zero a)
or_leb (suc a) (suc b) = rw (leb-suc-suc (suc a) b, leb-suc-suc a b, eqb-suc-suc a b) (or_leb a b)

module _ (f : Format) (x y : Float) (X : Number f x) (Y : Number f y) where
  pub lt_units : lt x y ≡ ltb ((whole f x).up + (whole f y).dn) ((whole f y).up + (whole f x).dn)
  unfolding lt whole
  lt_units =
      over_units f lt (λ s a t b c. below s a t b) (λ s t m n e d. refl) below_scale x y X Y
      ∙ below_is (negative x) (magnitude f x) (negative y) (magnitude f y)

  pub eq_units : eq x y ≡ eqb ((whole f x).up + (whole f y).dn) ((whole f y).up + (whole f x).dn)
  unfolding eq whole
  eq_units =
      over_units f eq (λ s a t b c. level s a t b) (λ s t m n e d. refl) level_scale x y X Y
      ∙ level_is (negative x) (magnitude f x) (negative y) (magnitude f y)

  pub le_units : le x y ≡ leb ((whole f x).up + (whole f y).dn) ((whole f y).up + (whole f x).dn)
  unfolding le
  le_units = (λ i. lt_units i || eq_units i) ∙ or_leb ((whole f x).up + (whole f y).dn) ((whole f y).up + (whole f x).dn)

  -- the same in integers
  pub lt_value : T (lt x y) ↔ value f x <ℤ value f y
  lt_value = rw (lt_units, value_int f x, value_int f y) (less (whole f x) (whole f y))

  pub le_value : T (le x y) ↔ value f x ≤ℤ value f y
  le_value = rw (le_units, value_int f x, value_int f y) (at_most_lem (whole f x) (whole f y))

  pub eq_value : T (eq x y) ↔ value f x ≡ value f y
  eq_value = rw (eq_units, value_int f x, value_int f y) (same (whole f x) (whole f y))
