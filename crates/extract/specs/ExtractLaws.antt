-- What a list's high parts, remainders and sum are where it is joined of two, and what its largest magnitude is and bounds. Assumes nothing.
use Rattle.std.specs.Prelude.{◌≡◌, ℕ, max, ◌*◌, ◌≤◌, length, Float}
use Rattle.std.proofs.Math.Path.{refl}
use Rattle.std.proofs.Common.{◌∙◌, inl, inr, mul-zero}
use mathlib.Core.List.{List, [], ◌∷◌, ◌++◌, foldl, map-append}
use native.Mathlib.Omega.{arith}
use Rattle.std.proofs.Math.ListN.{length-map}
use Rattle.std.specs.Float.{Format}
use Rattle.std.specs.Float.Ieee.{add}
use Rattle.units.proofs.Powers.{le_or_lt}
use Rattle.lists.specs.Each.{Each, each_weaker}
use Rattle.ieee.specs.Units.{magnitude}
use Rattle.extract.specs.Extract.{high_part, remainder_of, remainders, gathered, last_sum, plus_zero, largest}

module _ (f : Format) (sigma : Float) where
  pub gathered_none : (tau : Float) → gathered f sigma tau [] ≡ tau
  unfolding gathered
  gathered_none tau = refl

  pub gathered_join : (tau : Float) (xs ys : List Float) → gathered f sigma tau (xs ++ ys) ≡ gathered f sigma (gathered f sigma tau xs) ys
  unfolding gathered
  gathered_join tau [] ys = refl
  gathered_join tau (x ∷ xs) ys = gathered_join (add f tau (high_part f sigma x)) xs ys

  pub gathered_next : (tau : Float) (xs : List Float) (x : Float)
      → gathered f sigma tau (xs ++ (x ∷ [])) ≡ add f (gathered f sigma tau xs) (high_part f sigma x)
  unfolding gathered
  gathered_next tau xs x = gathered_join tau xs (x ∷ [])

  pub remainders_none : remainders f sigma [] ≡ []
  unfolding remainders
  remainders_none = refl

  pub remainders_join : (xs ys : List Float) → remainders f sigma (xs ++ ys) ≡ remainders f sigma xs ++ remainders f sigma ys
  unfolding remainders
  remainders_join xs ys = map-append (remainder_of f sigma) xs ys

  pub remainders_next : (xs : List Float) (x : Float) → remainders f sigma (xs ++ (x ∷ [])) ≡ remainders f sigma xs ++ (remainder_of f sigma x ∷ [])
  unfolding remainders
  remainders_next xs x = remainders_join xs (x ∷ [])

  pub remainders_length : (xs : List Float) → length (remainders f sigma xs) ≡ length xs
  unfolding remainders
  remainders_length xs = length-map xs (remainder_of f sigma)

-- a bound of two numbers, each times k, bounds the larger times k
pub max_scaled : (k c m n : ℕ) → k * m ≤ c → k * n ≤ c → k * max m n ≤ c
max_scaled k c m n M N = elim (le_or_lt m n) [
  | inl l ↦ let e : max m n ≡ n = omega arith in rw e N
  | inr l ↦ let e : max m n ≡ m = omega arith in rw e M
]

module _ (f : Format) where
  -- ---- the sum
  added : (t : Float) (xs : List Float) (x : Float) → foldl (add f) t (xs ++ (x ∷ [])) ≡ add f (foldl (add f) t xs) x
  added t [] x = refl
  added t (y ∷ xs) x = added (add f t y) xs x

  pub sum_next : (xs : List Float) (x : Float) → last_sum f (xs ++ (x ∷ [])) ≡ add f (last_sum f xs) x
  unfolding last_sum
  sum_next xs x = added (plus_zero f) xs x

  -- ---- the largest magnitude
  pub largest_none : largest f [] ≡ 0
  unfolding largest
  largest_none = refl

  pub largest_join : (xs ys : List Float) → largest f (xs ++ ys) ≡ max (largest f xs) (largest f ys)
  unfolding largest
  largest_join [] ys = omega arith
  largest_join (x ∷ xs) ys = rw (largest_join xs ys) (omega arith)

  pub largest_next : (xs : List Float) (x : Float) → largest f (xs ++ (x ∷ [])) ≡ max (largest f xs) (magnitude f x)
  unfolding largest
  largest_next xs x = largest_join xs (x ∷ []) ∙ omega arith

  -- it bounds each, and every bound of each bounds it
  pub largest_bounds : (xs : List Float) → Each (λ x. magnitude f x ≤ largest f xs) xs
  unfolding largest
  largest_bounds [] = tt
  largest_bounds (x ∷ xs) = (
    omega arith,
    each_weaker (λ y. magnitude f y ≤ largest f xs) (λ y. magnitude f y ≤ largest f (x ∷ xs)) (λ y h. omega arith) xs (largest_bounds xs),
  )

  pub largest_le : (c : ℕ) (xs : List Float) → Each (λ x. magnitude f x ≤ c) xs → largest f xs ≤ c
  unfolding largest
  largest_le c [] h = omega arith
  largest_le c (x ∷ xs) h = let l : largest f xs ≤ c = largest_le c xs h.1 in omega (arith, h.0)

  pub largest_scaled : (k c : ℕ) (xs : List Float) → Each (λ x. k * magnitude f x ≤ c) xs → k * largest f xs ≤ c
  unfolding largest
  largest_scaled k c [] h = rw (mul-zero k) (omega arith)
  largest_scaled k c (x ∷ xs) h = max_scaled k c (magnitude f x) (largest f xs) h.0 (largest_scaled k c xs h.1)

  pub largest_zero : (xs : List Float) → Each (λ x. magnitude f x ≡ 0) xs → largest f xs ≡ 0
  largest_zero xs h =
      let l : largest f xs ≤ 0 = largest_le 0 xs (each_weaker (λ x. magnitude f x ≡ 0) (λ x. magnitude f x ≤ 0) (λ x e. omega arith) xs h) in
      omega arith
