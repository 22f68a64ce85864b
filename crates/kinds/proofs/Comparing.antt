-- Where a width's order is IEEE 754's, so are its comparisons. Assumes nothing.
use Rattle.std.specs.Prelude.{◌≡◌, refl, Bool, cond, ◌||◌, Option, Some, None, Float}
use Rattle.std.proofs.Common.{Ordering, Less, Equal, Greater, is_lt, is_le}
use Rattle.std.proofs.Math.Bool.{true, false}
use Rattle.std.specs.Ordering.{is_some_and, partial_le, partial_lt, float_partial_cmp}
use Rattle.std.specs.Float.Ieee.{lt, le, eq}

less : (a b c : Bool) → is_some_and is_lt (cond a (Some Less) (cond b (Some Equal) (cond c (Some Greater) None))) ≡ a
less true b c = refl
less false true c = refl
less false false true = refl
less false false false = refl

at_most : (a b c : Bool) → is_some_and is_le (cond a (Some Less) (cond b (Some Equal) (cond c (Some Greater) None))) ≡ (a || b)
at_most true b c = refl
at_most false true c = refl
at_most false false true = refl
at_most false false false = refl

module _ {A : Type 0} (v : A → Float) (R : A → A → Option Ordering) (ordered : (x y : A) → R x y ≡ float_partial_cmp (v x) (v y)) (x y : A) where
  pub at_most_is : partial_le R x y ≡ le (v x) (v y)
  unfolding le
  at_most_is = rw (ordered x y) (at_most (lt (v x) (v y)) (eq (v x) (v y)) (lt (v y) (v x)))

  pub less_is : partial_lt R x y ≡ lt (v x) (v y)
  less_is = rw (ordered x y) (less (lt (v x) (v y)) (eq (v x) (v y)) (lt (v y) (v x)))
