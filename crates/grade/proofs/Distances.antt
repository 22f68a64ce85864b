-- Distances and orders of numbers of a format, as those of differences of naturals; and that exact is nearest, and nearest faithful. Assumes nothing.
use Rattle.std.specs.Prelude.{◌≡◌, ◌≤◌, ℤ, ◌-ℤ◌, nat_abs, ◌<ℤ◌, Float}
use Rattle.std.proofs.Common.{sym, ap, ◌∙◌, arith}
use Rattle.std.specs.Float.{Format}
use Rattle.units.specs.Whole.{◌⊖◌, ◌≈◌, ◌≺◌, mag, int, difference}
use Rattle.units.proofs.Integers.{int_is, int_same, int_back, int_lt, int_minus, int_mag, int_difference}
use Rattle.ieee.specs.Units.{Number, value, whole}
use Rattle.ieee.proofs.Sum.{value_int}
use Rattle.ieee.specs.Accuracy.{FaithfulTo, NearestTo}

module _ (f : Format) where
  -- how far a float is from S
  pub distance : (x : Float) (S : ℤ) → nat_abs (value f x -ℤ S) ≡ mag (whole f x ⊖ difference S)
  distance x S =
      (λ i. nat_abs (value_int f x i -ℤ sym (int_difference S) i))
      ∙ ap nat_abs (sym (int_minus (whole f x) (difference S)))
      ∙ int_mag (whole f x ⊖ difference S)

  -- and S from a float
  pub what_is_left : (x : Float) (S : ℤ) → difference (S -ℤ value f x) ≈ difference S ⊖ whole f x
  what_is_left x S = omega (arith, rw left at (int_is (difference S ⊖ whole f x)))
    where
      left : int (difference S ⊖ whole f x) ≡ S -ℤ value f x
      left = int_minus (difference S) (whole f x) ∙ (λ i. int_difference S i -ℤ sym (value_int f x) i)

  -- ---- a float and S
  module _ (x : Float) (S : ℤ) where
    pub is_sum : whole f x ≈ difference S → value f x ≡ S
    is_sum e = value_int f x ∙ int_same (whole f x) (difference S) e ∙ int_difference S

    pub sum_is : value f x ≡ S → whole f x ≈ difference S
    sum_is e = int_back (whole f x) (difference S) (sym (value_int f x) ∙ e ∙ sym (int_difference S))

    pub not_apart : nat_abs (value f x -ℤ S) ≡ 0 → value f x ≡ S
    not_apart z = is_sum (omega (arith, sym (distance x S) ∙ z))

    pub apart_none : value f x ≡ S → nat_abs (value f x -ℤ S) ≡ 0
    apart_none e = distance x S ∙ omega (arith, sum_is e)

    pub under_sum : value f x <ℤ S → whole f x ≺ difference S
    under_sum h = (int_lt (whole f x) (difference S)).1 (rw (← (value_int f x), int_difference S) h)

    pub over_sum : S <ℤ value f x → difference S ≺ whole f x
    over_sum h = (int_lt (difference S) (whole f x)).1 (rw (← (value_int f x), int_difference S) h)

    pub sum_under : difference S ≺ whole f x → S <ℤ value f x
    sum_under h = rw (value_int f x, ← (int_difference S)) ((int_lt (difference S) (whole f x)).0 h)

    pub sum_over : whole f x ≺ difference S → value f x <ℤ S
    sum_over h = rw (value_int f x, ← (int_difference S)) ((int_lt (whole f x) (difference S)).0 h)

  -- ---- two floats
  module _ (x y : Float) where
    pub less : value f x <ℤ value f y → whole f x ≺ whole f y
    less h = (int_lt (whole f x) (whole f y)).1 (rw (← (value_int f x), ← (value_int f y)) h)

    pub back_less : whole f x ≺ whole f y → value f x <ℤ value f y
    back_less h = rw (value_int f x, value_int f y) ((int_lt (whole f x) (whole f y)).0 h)

    pub same : whole f x ≈ whole f y → value f x ≡ value f y
    same e = value_int f x ∙ int_same (whole f x) (whole f y) e ∙ sym (value_int f y)

  -- ---- what is exact is nearest, and what is nearest is faithful
  module _ {S : ℤ} {x : Float} where
    pub best_distance : NearestTo f S x → (y : Float) → Number f y → mag (whole f x ⊖ difference S) ≤ mag (whole f y ⊖ difference S)
    best_distance N y Y = rw (distance x S, distance y S) at (N.best y Y)

    pub exact_nearest : Number f x → value f x ≡ S → NearestTo f S x
    exact_nearest X e = record {
      number = X;
      best = λ y Y. (let z = apart_none x S e in omega arith);
      tie = λ y Y t d. absurd (d (not_apart y S (t ∙ apart_none x S e) ∙ sym e));
    }

    pub nearest_faithful : NearestTo f S x → FaithfulTo f S x
    nearest_faithful N = record {
      number = N.number;
      above = λ y Y h k. omega (arith, best_distance N y Y, less x y h, under_sum y S k);
      below = λ y Y h k. omega (arith, best_distance N y Y, over_sum y S h, less y x k);
      exact = λ y Y e. is_sum x S (omega (arith, best_distance N y Y, sum_is y S e));
    }
