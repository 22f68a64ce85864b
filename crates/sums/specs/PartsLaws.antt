-- The parts of S are a non-overlapping sequence, each a number of the format and nearest to S less the parts before. Assumes nothing.
use Rattle.std.specs.Prelude.{◌≡◌, Bool, ℤ, neg_ℤ, ◌+ℤ◌, ◌-ℤ◌, nat_abs, length, take, set, Float}
use Rattle.std.proofs.Math.Path.{refl, sym, ap}
use Rattle.std.proofs.Common.{◌∙◌, lt_of_le_of_lt, arith}
use Rattle.std.proofs.Math.Bool.{false}
use mathlib.Core.List.{List, ◌∷◌, [], ◌++◌, map, append-nil, append_assoc}
use Prim.Native.Nat.{ℕ, zero, suc, ◌+◌, ◌-◌, ◌≤◌, ◌<◌}
use Rattle.std.proofs.Math.Numerals.{add-one}
use Rattle.std.proofs.Math.IntN.{neg_ℤ-+ℤ, +ℤ_assoc, +ℤ_idr}
use Rattle.std.proofs.Math.Seq.{take-suc-set}
use Rattle.std.specs.Float.{Format}
use Rattle.std.specs.Float.Ieee.{prec}
use Rattle.units.specs.Whole.{Whole, nat, ◌⊖◌, ◌≈◌, Within, mag, int, difference, exact_sum}
use Rattle.units.specs.Rounding.{fl}
use Rattle.units.proofs.SignedRounding.{rep_zero, fl_same, fl_best}
use Rattle.units.proofs.Integers.{int_back, int_minus, int_difference, mag_difference}
use Rattle.ieee.specs.Units.{magnitude, value, nearest_float, limit}
use Rattle.ieee.proofs.Sum.{value_int, whole_mag}
use Rattle.ieee.proofs.Rounded.{prec_pos}
use Rattle.ieee.proofs.Overflow.{nearest_whole}
use Rattle.sums.specs.FirstPlace.{rounding_apart}
use Rattle.sums.specs.Sums.{parts}
use Rattle.sums.specs.NonOverlapping.{Apart, NonOverlapping}

module _ (f : Format) where
  -- what is left of S after its nearest number
  abbrev left : Bool → ℤ → ℤ
  left z S = S -ℤ value f (nearest_float f z S)

  module _ (z : Bool) (S : ℤ) (l : nat_abs S < limit f) where
    left_is : difference (left z S) ≈ difference S ⊖ fl (prec f) (difference S)
    left_is = int_back (difference (left z S)) (difference S ⊖ fl (prec f) (difference S)) (int_difference (left z S) ∙ sym same)
      where
        same : int (difference S ⊖ fl (prec f) (difference S)) ≡ left z S
        same = rw (value_int f (nearest_float f z S), nearest_whole f z S l) (
            int_minus (difference S) (fl (prec f) (difference S)) ∙ ap (λ (x : ℤ). x -ℤ int (fl (prec f) (difference S))) (int_difference S)
            )

    -- it is no larger than S, since 0 is no nearer
    pub left_smaller : nat_abs (left z S) ≤ nat_abs S
    left_smaller = rw (← (mag_difference (left z S)), ← (mag_difference S)) (smaller (difference (left z S)) (difference S) x left_is near)
      where
        x : Whole
        x = fl (prec f) (difference S)

        near : Within (fl (prec f) (difference S) ⊖ difference S) (mag (difference S))
        near = fl_best (prec f) (prec_pos f) (difference S) {f = nat 0} (mag (difference S)) (rep_zero (prec f)) (omega arith)

        smaller : (a D x : Whole) → a ≈ D ⊖ x → Within (x ⊖ D) (mag D) → mag a ≤ mag D
        smaller a D x e h = omega arith

    nearest_apart : Apart f (nearest_float f z S) (nearest_float f false (left z S))
    nearest_apart = rw (size z S l, size false (left z S) (lt_of_le_of_lt left_smaller l), fl_same (prec f) (difference (left z S)) r left_is)
        (rounding_apart (prec f) (prec_pos f) (difference S))
      where
        r : Whole
        r = difference S ⊖ fl (prec f) (difference S)

        size : (z : Bool) (S : ℤ) → nat_abs S < limit f → magnitude f (nearest_float f z S) ≡ mag (fl (prec f) (difference S))
        size z S l = sym (whole_mag f (nearest_float f z S)) ∙ ap mag (nearest_whole f z S l)

  pub parts_apart : (k : ℕ) (z : Bool) (S : ℤ) → nat_abs S < limit f → NonOverlapping f (parts f k z S)
  unfolding parts
  parts_apart zero z S l = tt
  parts_apart (suc zero) z S l = tt
  parts_apart (suc (suc k)) z S l = (nearest_apart z S l, parts_apart (suc k) false (left z S) (lt_of_le_of_lt (left_smaller z S l) l))

  -- what is left after k parts is S less their sum
  unfoldable pub remaining : ℕ → Bool → ℤ → ℤ
  remaining zero z S = S
  remaining (suc k) z S = remaining k false (left z S)

  -- ---- a loop that fills an area: the first i of n places are done, and k of them are left
  parts_more : (n i : ℕ) → i < n → (k : ℕ) × ((n - i ≡ suc k) × (n - (i + 1) ≡ k))
  parts_more n i h = (n - (i + 1), (omega arith, refl))

  pub parts_next : (area : List Float) (i : ℕ) (z : Bool) (S : ℤ) → i < length area
      → take i area ++ parts f (length area - i) z S ≡ take (i + 1) (set area i (nearest_float f z S)) ++ parts f (length area - (i + 1)) false (left z S)
  unfolding parts
  parts_next area i z S h =
      let m = parts_more (length area) i h in
      let x = nearest_float f z S in
      rw (m.1.0, m.1.1, add-one i, take-suc-set area i x h) (sym (append_assoc (take i area) (x ∷ []) (parts f m.0 false (left z S))))

  pub parts_none : (z : Bool) (S : ℤ) (area : List Float) → area ++ parts f 0 z S ≡ area
  unfolding parts
  parts_none z S area = append-nil area

  pub remaining_none : (z : Bool) (S : ℤ) → remaining 0 z S ≡ S
  unfolding remaining
  remaining_none z S = refl

  pub remaining_next : (n i : ℕ) (z : Bool) (S : ℤ) → i < n → remaining (n - i) z S ≡ remaining (n - (i + 1)) false (left z S)
  unfolding remaining
  remaining_next n i z S h = let m = parts_more n i h in rw (m.1.0, m.1.1)

  pub parts_left : (k : ℕ) (z : Bool) (S : ℤ) → S -ℤ exact_sum (map (value f) (parts f k z S)) ≡ remaining k z S
  unfolding parts remaining
  parts_left zero z S = +ℤ_idr S
  parts_left (suc k) z S = less S (value f (nearest_float f z S)) (exact_sum (map (value f) (parts f k false (left z S)))) ∙ parts_left k false (left z S)
    where
      less : (a b c : ℤ) → a -ℤ (b +ℤ c) ≡ a -ℤ b -ℤ c
      less a b c = ap (λ (x : ℤ). a +ℤ x) (neg_ℤ-+ℤ b c) ∙ sym (+ℤ_assoc a (neg_ℤ b) (neg_ℤ c))

  pub parts_length : (k : ℕ) (z : Bool) (S : ℤ) → length (parts f k z S) ≡ k
  unfolding parts
  parts_length zero z S = refl
  parts_length (suc k) z S = ap suc (parts_length k false (left z S))
