-- The grade, case by case: as the claim is S, as S is a number, and as the claim's pattern is the nearest's or that on the other side. Assumes nothing.
use Rattle.std.specs.Prelude.{◌≡◌, true, false, ◌+◌, ◌-◌, ◌≤◌, ◌<◌, eqb, ℤ, ◌-ℤ◌, nat_abs, Float}
use borrow.Author.Tests.{lt-ltb, le-ltb, eq-eqb, ne_eqb}
use Rattle.std.specs.Float.{Format}
use Rattle.std.specs.Float.Ieee.{to_bits}
use Rattle.ieee.specs.Units.{magnitude, value}
use Rattle.grade.specs.Grade.{near, other_side, grade_at}
use Rattle.grade.proofs.Distances.{apart_none, not_apart}
use Rattle.grade.specs.Graded.{Exact, Nearest, Faithful, Wrong}

-- ---- whether a float is S, as the test has it
module _ (f : Format) (x : Float) (S : ℤ) where
  pub same_test : value f x ≡ S → eqb (nat_abs (value f x -ℤ S)) 0 ≡ true
  same_test e = eq-eqb (nat_abs (value f x -ℤ S)) 0 (apart_none f x S e)

  pub other_test : (value f x ≡ S → ⊥) → eqb (nat_abs (value f x -ℤ S)) 0 ≡ false
  other_test d = ne_eqb (nat_abs (value f x -ℤ S)) 0 (λ z. d (not_apart f x S z))

-- ---- on which side
module _ (f : Format) (S : ℤ) where
  pub side_away : magnitude f (near f S) < nat_abs S → other_side f S ≡ to_bits f (near f S) + 1
  unfolding other_side
  side_away h = rw (lt-ltb (magnitude f (near f S)) (nat_abs S) h)

  pub side_back : nat_abs S ≤ magnitude f (near f S) → other_side f S ≡ to_bits f (near f S) - 1
  unfolding other_side
  side_back h = rw (le-ltb (magnitude f (near f S)) (nat_abs S) h)

-- ---- the grade
module _ (f : Format) (S : ℤ) (x : Float) where
  pub grade_exact : value f x ≡ S → grade_at f S x ≡ Exact
  unfolding grade_at
  grade_exact e = rw (same_test f x S e)

  module _ (d : value f x ≡ S → ⊥) where
    -- S is a number, another than the claim
    pub grade_missed : value f (near f S) ≡ S → grade_at f S x ≡ Wrong
    unfolding grade_at
    grade_missed e = rw (other_test f x S d, same_test f (near f S) S e)

    module _ (n : value f (near f S) ≡ S → ⊥) where
      pub grade_near : to_bits f x ≡ to_bits f (near f S) → grade_at f S x ≡ Nearest
      unfolding grade_at
      grade_near e = rw (other_test f x S d, other_test f (near f S) S n, eq-eqb (to_bits f x) (to_bits f (near f S)) e)

      module _ (b : to_bits f x ≡ to_bits f (near f S) → ⊥) where
        pub grade_side : to_bits f x ≡ other_side f S → grade_at f S x ≡ Faithful
        unfolding grade_at
        grade_side e =
            rw (other_test f x S d, other_test f (near f S) S n, ne_eqb (to_bits f x) (to_bits f (near f S)) b, eq-eqb (to_bits f x) (other_side f S) e)

        pub grade_off : (to_bits f x ≡ other_side f S → ⊥) → grade_at f S x ≡ Wrong
        unfolding grade_at
        grade_off e =
            rw (other_test f x S d, other_test f (near f S) S n, ne_eqb (to_bits f x) (to_bits f (near f S)) b, ne_eqb (to_bits f x) (other_side f S) e)
