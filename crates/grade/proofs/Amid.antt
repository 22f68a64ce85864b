-- S strictly between two numbers of the format with none between them: both are faithful to S, no other number is, and no number is S. Assumes nothing.
use Rattle.std.specs.Prelude.{◌≡◌, ◌⊎◌, ◌+◌, ◌≤◌, ◌<◌, ℤ, Float}
use Rattle.std.proofs.Common.{inl, inr, arith}
use Rattle.std.specs.Float.{Format}
use Rattle.units.specs.Whole.{◌≺◌, difference}
use Rattle.units.proofs.Powers.{le_or_lt}
use Rattle.ieee.specs.Units.{Number, value, whole}
use Rattle.ieee.specs.Accuracy.{FaithfulTo}
use Rattle.grade.proofs.Distances.{sum_is, under_sum, over_sum, sum_under, sum_over, less, back_less, same}
use Rattle.grade.specs.Amid.{Amid}

module _ {f : Format} {S : ℤ} {p q : Float} (A : Amid f S p q) where
  pub amid_no_number : {y : Float} → Number f y → value f y ≡ S → ⊥
  amid_no_number {y} Y e = A.none y Y (omega (arith, A.under, sum_is f y S e)) (omega (arith, A.over, sum_is f y S e))

  pub lower_faithful : FaithfulTo f S p
  lower_faithful = record {
    number = A.lower_number;
    above = λ y Y h k. A.none y Y (less f p y h) (omega (arith, A.over, under_sum f y S k));
    below = λ y Y h k. omega (arith, A.under, over_sum f y S h, less f y p k);
    exact = λ y Y e. absurd (amid_no_number Y e);
  }

  pub upper_faithful : FaithfulTo f S q
  upper_faithful = record {
    number = A.upper_number;
    above = λ y Y h k. omega (arith, A.over, less f q y h, under_sum f y S k);
    below = λ y Y h k. A.none y Y (omega (arith, A.under, over_sum f y S h)) (less f y q k);
    exact = λ y Y e. absurd (amid_no_number Y e);
  }

  pub amid_only : {x : Float} → FaithfulTo f S x → (value f x ≡ value f p) ⊎ (value f x ≡ value f q)
  amid_only {x} F = elim (le_or_lt ((whole f x).up + (difference S).dn) ((difference S).up + (whole f x).dn)) [
    | inl l ↦ inl (same f x p (lower l))
    | inr l ↦ inr (same f x q (upper l))
  ]
    where
      not_below : whole f x ≺ whole f p → ⊥
      not_below h = F.above p A.lower_number (back_less f x p h) (sum_over f p S A.under)

      not_above : whole f q ≺ whole f x → ⊥
      not_above h = F.below q A.upper_number (sum_under f q S A.over) (back_less f q x h)

      lower : (whole f x).up + (difference S).dn ≤ (difference S).up + (whole f x).dn → (whole f x).up + (whole f p).dn ≡ (whole f p).up + (whole f x).dn
      lower l = elim (le_or_lt ((whole f p).up + (whole f x).dn) ((whole f x).up + (whole f p).dn)) [
        | inr g ↦ absurd (not_below g)
        | inl g ↦ elim (le_or_lt ((whole f x).up + (whole f p).dn) ((whole f p).up + (whole f x).dn)) [
          | inl m ↦ omega arith
          | inr m ↦ absurd (A.none x F.number m (omega (arith, A.over)))
        ]
      ]

      upper : (difference S).up + (whole f x).dn < (whole f x).up + (difference S).dn → (whole f x).up + (whole f q).dn ≡ (whole f q).up + (whole f x).dn
      upper l = elim (le_or_lt ((whole f x).up + (whole f q).dn) ((whole f q).up + (whole f x).dn)) [
        | inr g ↦ absurd (not_above g)
        | inl g ↦ elim (le_or_lt ((whole f q).up + (whole f x).dn) ((whole f x).up + (whole f q).dn)) [
          | inl m ↦ omega arith
          | inr m ↦ absurd (A.none x F.number (omega (arith, A.under)) m)
        ]
      ]
