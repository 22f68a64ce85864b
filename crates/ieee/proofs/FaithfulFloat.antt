-- A float whose units are a faithful rounding of S at prec bits is a faithful rounding of S in its format; the nearest float is one. Assumes nothing.
use Rattle.std.specs.Prelude.{◌≡◌, Bool, ◌<◌, ℤ, nat_abs, ◌<ℤ◌, Float}
use Rattle.std.proofs.Common.{sym, ◌∙◌, arith}
use Rattle.std.specs.Float.{Format}
use Rattle.std.specs.Float.Ieee.{prec}
use Rattle.units.specs.Whole.{Whole, ◌≈◌, ◌≺◌, int, difference}
use Rattle.units.specs.Faithful.{Faithful}
use Rattle.units.proofs.SignedRounding.{rep_same}
use Rattle.units.proofs.FaithfulLaws.{faithful_exact, fl_faithful}
use Rattle.units.proofs.Integers.{int_lt, int_same, int_back, int_difference}
use Rattle.ieee.specs.Units.{Number, whole, nearest_float, limit}
use Rattle.ieee.specs.Accuracy.{FaithfulTo}
use Rattle.ieee.proofs.Sum.{value_int}
use Rattle.ieee.proofs.Nearest.{number_rep, nearest_number}
use Rattle.ieee.proofs.Rounded.{prec_pos}
use Rattle.ieee.proofs.Overflow.{nearest_whole}

-- orders and equations of integers, as those of differences
less : (a b : Whole) {A B : ℤ} → A ≡ int a → B ≡ int b → A <ℤ B → a ≺ b
less a b i j h = (int_lt a b).1 (rw (← i, ← j) h)

same : (a b : Whole) {A B : ℤ} → A ≡ int a → B ≡ int b → A ≡ B → a ≈ b
same a b i j e = int_back a b (sym i ∙ e ∙ j)

pub faithful_float : {f : Format} {S : ℤ} {x : Float} → Number f x → Faithful (prec f) (whole f x) (difference S) → FaithfulTo f S x
faithful_float {f} {S} {x} X F = record {
  number = X;
  above = λ y Y h k.
      let a = F.above (whole f y) (number_rep Y) (less (whole f x) (whole f y) (value_int f x) (value_int f y) h) in
      let b = less (whole f y) (difference S) (value_int f y) (sym (int_difference S)) k in
      omega arith;
  below = λ y Y h k.
      let a = F.below (whole f y) (number_rep Y) (less (whole f y) (whole f x) (value_int f y) (value_int f x) k) in
      let b = less (difference S) (whole f y) (sym (int_difference S)) (value_int f y) h in
      omega arith;
  exact = λ y Y e.
      let R = rep_same (same (whole f y) (difference S) (value_int f y) (sym (int_difference S)) e) (number_rep Y) in
      value_int f x ∙ int_same (whole f x) (difference S) (faithful_exact F R) ∙ int_difference S;
}

pub nearest_faithful : (f : Format) (z : Bool) (S : ℤ) → nat_abs S < limit f → FaithfulTo f S (nearest_float f z S)
nearest_faithful f z S l = faithful_float (nearest_number f z S l) (rw (nearest_whole f z S l) (fl_faithful (prec f) (prec_pos f) (difference S)))
