-- The largest magnitude of a float and a list is a float again, with no sign: in units, of lists that are joined, and as a pattern. Assumes nothing.
use Rattle.std.specs.Prelude.{◌≡◌, refl, ℕ, zero, suc, ◌%◌, ◌<◌, max, T, pos, Float}
use Rattle.std.proofs.Common.{sym, ◌∙◌, inl, inr, mod-eq_of_lt, arith, leb-false}
use Rattle.std.proofs.Math.Path.{ap}
use Rattle.std.proofs.Math.Bool.{false}
use mathlib.Core.List.{List, [], ◌∷◌, ◌++◌}
use Rattle.std.specs.Float.{Format}
use Rattle.std.specs.Float.Ieee.{top, fits, of_bits, to_bits}
use Rattle.std.specs.Float.Ieee.Fits.{sub-fits}
use Rattle.std.specs.Float.Ieee.Bits.{of_bits-fits}
use Rattle.std.specs.Float.Ieee.Scale.{finite}
use Rattle.units.proofs.Powers.{le_or_lt}
use Rattle.ieee.specs.Units.{Is, Number, negative, magnitude, signed, value, sign_of, nearest_float}
use Rattle.ieee.proofs.Finite.{facts, is_units, is_finite, same_float}
use Rattle.ieee.proofs.RoundExact.{round_exact}
use Rattle.ieee.proofs.Overflow.{nearest_round, nearest_fits}
use Rattle.ieee.proofs.PatternBounds.{bits_units}
use Rattle.lists.specs.Each.{Each, each_map}
use Rattle.extract.specs.Extract.{high_part, remainder_of, remainders, largest, largest_with}
use Rattle.extract.specs.ExtractLaws.{largest_none, largest_join}
use Rattle.extract.specs.LargestLaws.{Positive, Stands, number_stands, stands_is, zero_positive, larger, kept}
use Rattle.extract.specs.GroupedLaws.{Raised, raised_kept, raised_larger}
use Rattle.extract.specs.LargestWithLaws.{Sized}

-- a float without a sign that is a number of the format
pub positive_here : (f : Format) (x : Float) → T (fits f x) → T (finite x) → negative x ≡ false → Positive f x (magnitude f x)
positive_here f x fit fini sign = record { number = record { fit = fit; fini = fini }; sign = sign; units = refl }

-- a positive number is its units
pub positive_same : {f : Format} {x y : Float} {n : ℕ} → Positive f x n → Positive f y n → x ≡ y
unfolding value
positive_same X Y =
    same_float X.number Y.number ((λ i. signed (X.sign i) (X.units i)) ∙ sym (λ i. signed (Y.sign i) (Y.units i))) (λ z. X.sign ∙ sym Y.sign)

module _ (f : Format) where
  pub number_sized : {x : Float} → Number f x → Sized f (magnitude f x)
  number_sized {x} X = let F = facts f x X in record { short = F.short; below = F.below }

  larger_sized : {m n : ℕ} → Sized f m → Sized f n → Sized f (max m n)
  larger_sized {m} {n} M N = elim (le_or_lt m n) [
    | inl l ↦ let e : max m n ≡ n = omega arith in rw e N
    | inr l ↦ let e : max m n ≡ m = omega arith in rw e M
  ]

  largest_sized : (xs : List Float) → Each (Number f) xs → Sized f (largest f xs)
  unfolding largest
  largest_sized [] h = rw (sym (zero_positive f).units) (number_sized (zero_positive f).number)
  largest_sized (x ∷ xs) h = larger_sized (number_sized h.0) (largest_sized xs h.1)

  pub nearest_positive : {n : ℕ} → Sized f n → Positive f (nearest_float f false (pos n)) n
  nearest_positive {n} S = record {
    number = record { fit = nearest_fits f false (pos n); fini = is_finite f (nearest_float f false (pos n)) false n is };
    sign = (is_units f (nearest_float f false (pos n)) false n is).0;
    units = (is_units f (nearest_float f false (pos n)) false n is).1;
  }
    where
      plus : (n : ℕ) → sign_of false (pos n) ≡ false
      plus zero = refl
      plus (suc n) = refl

      is : Is f (nearest_float f false (pos n)) false n
      is = rw (nearest_round f false (pos n), plus n) (round_exact f false n S.short S.below)

  -- ---- the largest of a float and a list
  pub with_positive : {m : Float} {n : ℕ} → Positive f m n → (xs : List Float) → Each (Number f) xs → Positive f (largest_with f m xs) (max n (largest f xs))
  unfolding largest_with
  with_positive M xs h = rw M.units (nearest_positive (larger_sized (rw M.units at (number_sized M.number)) (largest_sized xs h)))

  pub with_none : {m : Float} {n : ℕ} → Positive f m n → largest_with f m [] ≡ m
  with_none {n = n} M =
      let e : max n (largest f []) ≡ n = rw (largest_none f) (omega arith) in
      positive_same (rw e at (with_positive M [] tt)) M

  pub with_join : {m : Float} {n : ℕ} → Positive f m n → (xs ys : List Float) → Each (Number f) xs
      → largest_with f (largest_with f m xs) ys ≡ largest_with f m (xs ++ ys)
  unfolding largest_with
  with_join {m} {n} M xs ys h =
      ap (λ (k : ℕ). nearest_float f false (pos k)) (rw ((with_positive M xs h).units, M.units, largest_join f xs ys) (omega arith))

  -- ---- a pattern that stands for it is its pattern
  pub positive_stands : {x : Float} {n : ℕ} → Positive f x n → Stands f (to_bits f x) n
  positive_stands {x} X =
      let Q : Stands f (to_bits f x % top f) (magnitude f x) = number_stands f X.number in
      let unsigned : to_bits f x < top f = leb-false (top f) (to_bits f x) (sym (bits_units X.number).0 ∙ X.sign) in
      rw (mod-eq_of_lt unsigned, X.units) at Q

  pub stands_positive : {r n : ℕ} → Stands f r n → Positive f (of_bits f r) n
  stands_positive {r} {n} R =
      let u = is_units f (of_bits f r) false n (stands_is f R) in
      record { number = record { fit = of_bits-fits f r; fini = is_finite f (of_bits f r) false n (stands_is f R) }; sign = u.0; units = u.1 }

  pub stands_with : {m : Float} {n r : ℕ} → Positive f m n → (xs : List Float) → Each (Number f) xs → Stands f r (max n (largest f xs))
      → of_bits f r ≡ largest_with f m xs
  stands_with M xs h R = positive_same (stands_positive R) (with_positive M xs h)

-- remainders that are finite are numbers of the format
pub remainders_numbers : (f : Format) (sigma : Float) (xs : List Float) → Each (λ x. T (finite (remainder_of f sigma x))) xs
    → Each (Number f) (remainders f sigma xs)
unfolding remainders
remainders_numbers f sigma xs h =
    each_map (λ x. T (finite (remainder_of f sigma x))) (Number f) (remainder_of f sigma)
    (λ x fini. record { fit = sub-fits f x (high_part f sigma x); fini = fini }) xs h

-- the greater of two patterns stands for the larger of what they stand for
pub stands_max : (f : Format) {r q m n : ℕ} → Stands f r m → Stands f q n → (k : ℕ) → k ≡ max r q → Stands f k (max m n)
stands_max f {r} {q} R Q k e = elim (le_or_lt q r) [
  | inl l ↦ let g : k ≡ r = omega arith in rw g (kept f R Q l)
  | inr l ↦ let g : k ≡ q = omega arith in rw g (larger f R Q l)
]

pub raised_max : (f : Format) {p r q : ℕ} {xs : List Float} → Raised f p xs r → (x : Float) → Stands f q (magnitude f x) → (k : ℕ) → k ≡ max r q
    → Raised f p (xs ++ (x ∷ [])) k
raised_max f {p} {r} {q} R x Q k e = elim (le_or_lt q r) [
  | inl l ↦ let g : k ≡ r = omega arith in rw g (raised_kept f R x Q l)
  | inr l ↦ let g : k ≡ q = omega arith in rw g (raised_larger f R x Q l)
]
