-- Tau in eight sums is tau in one: each sum is on sigma's grid and few enough numbers are taken, so that every addition is exact, and a float that is never -0
-- is its units. (T of rule W3 is on no grid: rule E4.) Assumes nothing.
use Rattle.std.specs.Prelude.{◌≡◌, pos, nat_abs, drop, Float}
use Rattle.std.proofs.Math.Path.{sym}
use Rattle.std.proofs.Common.{ap, ◌∙◌, mul-le-mul_right, pow-add, length-drop, take-append-drop}
use mathlib.Core.List.{List, [], ◌∷◌, ◌++◌, map}
use Prim.Native.Nat.{ℕ, zero, suc, ◌+◌, ◌-◌, ◌*◌, ◌/◌, ◌^◌, ◌≤◌, ◌<◌}
use native.Mathlib.Omega.{arith}
use Rattle.std.proofs.Math.ListN.{length, take}
use Rattle.std.proofs.Math.Seq.{length-take-le, take-add}
use Rattle.std.specs.Float.{Format}
use Rattle.std.specs.Float.Ieee.{prec, add}
use Rattle.units.specs.Whole.{Whole, nat, ◌⊕◌, ◌≈◌, total}
use Rattle.units.proofs.Powers.{cover}
use Rattle.units.specs.Rounding.{fl, Representable}
use Rattle.units.proofs.Multiples.{multiple_add}
use Rattle.units.proofs.SignedRounding.{fl_exact, fl_rep, fl_multiple}
use Rattle.units.proofs.Integers.{int_same}
use Rattle.units.proofs.Turns.{tau_zero}
use Rattle.units.specs.Walk as units
use Rattle.ieee.specs.Units.{RoundedTo, magnitude, value, whole}
use Rattle.ieee.proofs.Rounded.{prec_pos}
use Rattle.ieee.proofs.Finite.{same_float}
use Rattle.ieee.proofs.Sum.{value_int, value_mag}
use Rattle.ieee.proofs.InRange.{add_rounds}
use Rattle.lists.specs.Each.{Each, each_take, each_drop}
use Rattle.extract.specs.Extract.{plus_zero, high_part, gathered}
use Rattle.extract.specs.ExtractLaws.{gathered_join}
use Rattle.extract.specs.LargestLaws.{zero_positive}
use Rattle.extract.specs.Grouped.{spread, spreads, joined, grouped}
use Rattle.extract.specs.GroupedLaws.{spreads_length}
use Rattle.rounds.specs.InUnits.{Small, Scale, Tau, wholes, sum_plus, next_tau, next_exact, gathers}

-- ---- in units: two sums, of c and of d numbers
module _ (p : ℕ) (P : 0 < p) (M e : ℕ) {c d : ℕ} {a b : Whole} (A : units.Tau p M e c a) (B : units.Tau p M e d b) (l : c + d ≤ 2 ^ M) where
  both_rep : Representable p (a ⊕ b)
  both_rep = record {
    exp = M + e - p;
    on = multiple_add A.on B.on;
    small = omega (arith, A.small, B.small, pow-add 2 M e, mul-le-mul_right (2 ^ e) l, cover p (M + e));
  }

  both_exact : fl p (a ⊕ b) ≈ a ⊕ b
  both_exact = fl_exact p P both_rep

  both_tau : units.Tau p M e (c + d) (fl p (a ⊕ b))
  both_tau = record {
    rep = fl_rep p P (a ⊕ b);
    on = fl_multiple p P (multiple_add A.on B.on);
    small = omega (arith, A.small, B.small, both_exact);
  }

module _ {f : Format} {M e : ℕ} {sigma : Float} (σ : Scale f M e sigma) where
  tau_same : {c d : ℕ} {a b : Float} → Tau σ c a → Tau σ d b → whole f a ≈ whole f b → a ≡ b
  tau_same {a = a} {b} A B h = same_float A.number B.number equal (λ z. A.plus (none a z) ∙ sym (B.plus (none b (sym equal ∙ z))))
    where
      equal : value f a ≡ value f b
      equal = value_int f a ∙ int_same (whole f a) (whole f b) h ∙ sym (value_int f b)

      none : (x : Float) → value f x ≡ pos 0 → magnitude f x ≡ 0
      none x z = sym (value_mag f x) ∙ ap nat_abs z

  -- a sum, and what it is the exact sum of
  record Sum (c : ℕ) (s : Whole) (tau : Float) : Type 0 where
    is : Tau σ c tau
    exact : whole f tau ≈ s

  both : {c d : ℕ} {r s : Whole} {a b : Float} → Sum c r a → Sum d s b → c + d ≤ 2 ^ M → Sum (c + d) (r ⊕ s) (add f a b)
  both {c} {d} {r} {s} {a} {b} A B l =
      let R : RoundedTo f _ (whole f a ⊕ whole f b) (add f a b) = add_rounds A.is.number B.is.number (M + e + 1) (omega (arith, σ.room)) (omega (
        arith,
        A.is.units.small,
        B.is.units.small,
        pow-add 2 M e,
        pow-add 2 (M + e) 1,
        mul-le-mul_right (2 ^ e) l,
      )) in
      let x : whole f (add f a b) ≈ whole f a ⊕ whole f b = rw R.units (both_exact (prec f) (prec_pos f) M e A.is.units B.is.units l) in
      record {
        is = record {
          number = R.number;
          units = rw R.units (both_tau (prec f) (prec_pos f) M e A.is.units B.is.units l);
          plus = sum_plus a b A.is.plus R;
        };
        exact = omega (arith, x, A.exact, B.exact);
      }

  -- the exact sum of the high parts
  highs : List Float → Whole
  highs xs = total (wholes f (map (high_part f sigma) xs))

  one_chain : (xs : List Float) {c : ℕ} {tau : Float} → Tau σ c tau → Each (Small f (2 ^ e)) xs → c + length xs ≤ 2 ^ M
      → whole f (gathered f sigma tau xs) ≈ whole f tau ⊕ highs xs
  unfolding gathered highs
  one_chain [] T h l = omega arith
  one_chain (x ∷ xs) {c} T h l =
      let m : c < 2 ^ M = omega arith in
      omega (arith, next_exact σ T h.0 m, one_chain xs (next_tau σ T h.0 m) h.1 (omega arith))

  -- a turn: each of the sums has one number more
  turn : (ts xs : List Float) {c : ℕ} → Each (Tau σ c) ts → Each (Small f (2 ^ e)) xs → length xs ≡ length ts → c < 2 ^ M
      → Each (Tau σ (suc c)) (spread f sigma ts xs) × (total (wholes f (spread f sigma ts xs)) ≈ total (wholes f ts) ⊕ highs xs)
  unfolding spread highs
  turn [] [] A h n l = (tt, omega arith)
  turn [] (x ∷ xs) A h n l = absurd (omega arith)
  turn (t ∷ ts) [] A h n l = absurd (omega arith)
  turn (t ∷ ts) (x ∷ xs) A h n l =
      let R = turn ts xs A.1 h.1 (omega arith) l in
      ((next_tau σ A.0 h.0 l, R.0), omega (arith, next_exact σ A.0 h.0 l, R.1))

  highs_join : (xs ys : List Float) → highs (xs ++ ys) ≈ highs xs ⊕ highs ys
  unfolding highs
  highs_join [] ys = omega arith
  highs_join (x ∷ xs) ys = omega (arith, highs_join xs ys)

  zero_tau : Tau σ 0 (plus_zero f) × (whole f (plus_zero f) ≈ nat 0)
  unfolding whole
  zero_tau =
      let z = zero_positive f in
      (record { number = z.number; units = rw (z.sign, z.units) (tau_zero (prec f) M e); plus = λ h. z.sign }, rw (z.sign, z.units))

  -- the eight sums after i turns
  all_turns : (xs : List Float) (i : ℕ) → Each (Small f (2 ^ e)) xs → 8 * i ≤ length xs → length xs ≤ 2 ^ M
      → Each (Tau σ i) (spreads f sigma xs i) × (total (wholes f (spreads f sigma xs i)) ≈ highs (take (8 * i) xs))
  unfolding spreads highs
  all_turns xs zero h n l = let z = zero_tau.0 in ((z, (z, (z, (z, (z, (z, (z, (z, tt)))))))), omega (arith, zero_tau.1))
  all_turns xs (suc i) h n l =
      let part = take 8 (drop (8 * i) xs) in
      let s : length part ≡ 8 = length-take-le 8 (drop (8 * i) xs) (rw (length-drop (8 * i) xs) (omega arith)) in
      let R = all_turns xs i h (omega arith) l in
      let P = each_take (Small f (2 ^ e)) 8 (drop (8 * i) xs) (each_drop (Small f (2 ^ e)) (8 * i) xs h) in
      let T = turn (spreads f sigma xs i) part R.0 P (s ∙ sym (spreads_length f sigma xs i)) (omega arith) in
      let m : 8 * suc i ≡ 8 * i + 8 = omega arith in
      (T.0, rw (m, take-add (8 * i) 8 xs) (omega (arith, T.1, R.1, highs_join (take (8 * i) xs) part)))

  -- the eight in one
  join_eight : (ts : List Float) (i : ℕ) → length ts ≡ 8 → Each (Tau σ i) ts → 8 * i ≤ 2 ^ M
      → Sum (i + i + (i + i) + (i + i + (i + i))) (total (wholes f ts)) (joined f ts)
  unfolding joined
  join_eight (a ∷ b ∷ c ∷ d ∷ g ∷ h ∷ j ∷ k ∷ []) i n A l = record { is = S.is; exact = omega (arith, S.exact) }
    where
      own : {t : Float} → Tau σ i t → Sum i (whole f t) t
      own {t} T = record { is = T; exact = omega arith }

      S : Sum (i + i + (i + i) + (i + i + (i + i))) (whole f a ⊕ whole f b ⊕ (whole f c ⊕ whole f d) ⊕ (whole f g ⊕ whole f h ⊕ (whole f j ⊕ whole f k)))
          (add f (add f (add f a b) (add f c d)) (add f (add f g h) (add f j k)))
      S =
          both
          (both (both (own A.0) (own A.1.0) (omega arith)) (both (own A.1.1.0) (own A.1.1.1.0) (omega arith)) (omega arith))
          (both
          (both (own A.1.1.1.1.0) (own A.1.1.1.1.1.0) (omega arith))
          (both (own A.1.1.1.1.1.1.0) (own A.1.1.1.1.1.1.1.0) (omega arith))
          (omega arith))
          (omega arith)
  join_eight [] i n A l = absurd (omega arith)
  join_eight (a ∷ []) i n A l = absurd (omega arith)
  join_eight (a ∷ b ∷ []) i n A l = absurd (omega arith)
  join_eight (a ∷ b ∷ c ∷ []) i n A l = absurd (omega arith)
  join_eight (a ∷ b ∷ c ∷ d ∷ []) i n A l = absurd (omega arith)
  join_eight (a ∷ b ∷ c ∷ d ∷ g ∷ []) i n A l = absurd (omega arith)
  join_eight (a ∷ b ∷ c ∷ d ∷ g ∷ h ∷ []) i n A l = absurd (omega arith)
  join_eight (a ∷ b ∷ c ∷ d ∷ g ∷ h ∷ j ∷ []) i n A l = absurd (omega arith)
  join_eight (a ∷ b ∷ c ∷ d ∷ g ∷ h ∷ j ∷ k ∷ x ∷ xs) i n A l = absurd (omega arith)

  pub grouped_same : (xs : List Float) → Each (Small f (2 ^ e)) xs → length xs ≤ 2 ^ M → grouped f sigma xs ≡ gathered f sigma (plus_zero f) xs
  grouped_same xs h l = ap (λ (t : Float). gathered f sigma t (drop k xs)) same ∙ sym (gathered_join f sigma (plus_zero f) (take k xs) (drop k xs))
      ∙ ap (gathered f sigma (plus_zero f)) (take-append-drop k xs)
    where
      m : ℕ
      m = length xs / 8

      k : ℕ
      k = 8 * (length xs / 8)

      few : length (take (8 * (length xs / 8)) xs) ≡ 8 * (length xs / 8)
      few = length-take-le (8 * (length xs / 8)) xs (omega arith)

      first : Each (Small f (2 ^ e)) (take (8 * (length xs / 8)) xs)
      first = each_take (Small f (2 ^ e)) (8 * (length xs / 8)) xs h

      same : joined f (spreads f sigma xs (length xs / 8)) ≡ gathered f sigma (plus_zero f) (take (8 * (length xs / 8)) xs)
      same =
          let R = all_turns xs (length xs / 8) h (omega arith) l in
          let J = join_eight (spreads f sigma xs (length xs / 8)) (length xs / 8) (spreads_length f sigma xs (length xs / 8)) R.0 (omega arith) in
          let G = (gathers σ (take (8 * (length xs / 8)) xs) zero_tau.0 first (omega (arith, few))).0 in
          let E = one_chain (take (8 * (length xs / 8)) xs) zero_tau.0 first (omega (arith, few)) in
          tau_same J.is G (omega (arith, J.exact, R.1, E, zero_tau.1))
