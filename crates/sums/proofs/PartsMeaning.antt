-- The parts in the scope's words: how many there may be, when the answer says that they add up, and which sign a part that is zero has.
-- Assumes nothing.
use Rattle.std.specs.Prelude.{◌≡◌, refl, ◌↔◌, Bool, true, ◌&&◌, List, map, leb, ℤ, pos, negsuc, nat_abs, ◌+ℤ◌, ◌-ℤ◌, length, Float}
use Rattle.std.proofs.Common.{sym, ap, ◌∙◌, lt_of_le_of_lt, arith, eqb-true, eq-eqb, leb-true, le-leb}
use Rattle.std.proofs.Math.Bool.{false}
use Prim.Native.Nat.{ℕ, zero, suc, ◌≤◌, ◌<◌}
use Rattle.std.proofs.Math.IntN.{+ℤ-neg_ℤ_cancel, -ℤ-+ℤ_cancel, +ℤ_idl}
use Rattle.std.specs.Float.{Format}
use Rattle.std.specs.Float.Ieee.{prec}
use Rattle.units.specs.Whole.{nat, exact_sum}
use Rattle.units.specs.Rounding.{rnd, fl}
use Rattle.units.proofs.SignedRounding.{fl_nat, fl_zero}
use Rattle.ieee.specs.Units.{negative, magnitude, value, sign_of, nearest_float, limit}
use Rattle.ieee.proofs.Finite.{is_units}
use Rattle.ieee.proofs.Overflow.{nearest_is, nearest_negative}
use Rattle.ieee.proofs.Rounded.{prec_pos}
use Rattle.lists.specs.Each.{Each}
use Rattle.kinds.specs.Limits.{Width, doubles}
use Rattle.sums.specs.Sums.{parts, add_up, fitting}
use Rattle.sums.specs.PartsLaws.{left_smaller}
use Rattle.sums.specs.PartsMeaning.{ZeroSigns}
use Rattle.units.specs.Whole.{◌≈◌}

-- ---- rule L10: 1 to 8 parts
both : (a b : Bool) → (a && b) ≡ true → (a ≡ true) × (b ≡ true)
both true true e = (refl, refl)
both true false e = let z : ◌≡◌ {A = ℕ} 0 1 = cc in absurd (omega arith)
both false b e = let z : ◌≡◌ {A = ℕ} 0 1 = cc in absurd (omega arith)

pub fitting_when : (W : Width) (area : List Float) → (fitting W area ≡ true) ↔ ((1 ≤ length area) × (length area ≤ W.parts))
fitting_when W area = (
  λ e. let h = both (leb 1 (length area)) (leb (length area) W.parts) e in (leb-true 1 (length area) h.0, leb-true (length area) W.parts h.1),
  λ h. rw (le-leb 1 (length area) h.0, le-leb (length area) W.parts h.1),
)

pub fitting_doubles : (area : List Float) → (fitting doubles area ≡ true) ↔ ((1 ≤ length area) × (length area ≤ 8))
fitting_doubles = fitting_when doubles

-- ---- rule S5: the answer says that the parts add up exactly when their exact sum is S
no_distance : (z : ℤ) → nat_abs z ≡ 0 → z ≡ pos 0
no_distance (pos n) e = ap pos e
no_distance (negsuc n) e = absurd (omega arith)

pub add_up_when : (f : Format) (xs : List Float) (S : ℤ) → (add_up f xs S ≡ true) ↔ (exact_sum (map (value f) xs) ≡ S)
add_up_when f xs S = (
  λ e.
      let E = exact_sum (map (value f) xs) in
      let d = no_distance (S -ℤ E) (eqb-true (nat_abs (S -ℤ E)) 0 e) in
      sym (sym (-ℤ-+ℤ_cancel S E) ∙ ap (λ (z : ℤ). z +ℤ E) d ∙ +ℤ_idl E),
  λ e. rw e (eq-eqb (nat_abs (S -ℤ S)) 0 (ap nat_abs (sym (ap (λ (z : ℤ). z -ℤ S) (+ℤ_idl S)) ∙ +ℤ-neg_ℤ_cancel (pos 0) S))),
)

module _ (f : Format) where
  -- nothing but zero is rounded to zero
  rounded_none : (z : Bool) (S : ℤ) → nat_abs S < limit f → magnitude f (nearest_float f z S) ≡ 0 → nat_abs S ≡ 0
  rounded_none z S l e =
      let x = nearest_float f z S in
      let m : magnitude f x ≡ rnd (prec f) (nat_abs S) = (is_units f x (sign_of z S) (rnd (prec f) (nat_abs S)) (nearest_is f z S l)).1 in
      let w : fl (prec f) (nat (nat_abs S)) ≈ nat 0 = rw (fl_nat (prec f) (prec_pos f) (nat_abs S)) (omega (arith, m)) in
      omega (arith, fl_zero (prec f) (prec_pos f) (nat (nat_abs S)) w)

  pub nearest_sign : (z : Bool) (S : ℤ) → nat_abs S < limit f → magnitude f (nearest_float f z S) ≡ 0 → negative (nearest_float f z S) ≡ z
  nearest_sign z (pos zero) l e = nearest_negative f z (pos 0) l
  nearest_sign z (pos (suc n)) l e = absurd (omega (arith, rounded_none z (pos (suc n)) l e))
  nearest_sign z (negsuc n) l e = absurd (omega (arith, rounded_none z (negsuc n) l e))

  later_parts : (k : ℕ) (S : ℤ) → nat_abs S < limit f → Each (λ x. magnitude f x ≡ 0 → negative x ≡ false) (parts f k false S)
  unfolding parts
  later_parts zero S l = tt
  later_parts (suc k) S l = (
    nearest_sign false S l,
    later_parts k (S -ℤ value f (nearest_float f false S)) (lt_of_le_of_lt (left_smaller f false S l) l),
  )

  pub parts_signs : (k : ℕ) (z : Bool) (S : ℤ) → nat_abs S < limit f → ZeroSigns f z (parts f k z S)
  unfolding parts
  parts_signs zero z S l = tt
  parts_signs (suc k) z S l = (nearest_sign z S l, later_parts k (S -ℤ value f (nearest_float f z S)) (lt_of_le_of_lt (left_smaller f z S l) l))
