-- One number more in the eight sums, and eight more. Assumes nothing.
use Rattle.std.specs.Prelude.{◌≡◌, length, take, drop, get_or, set, Float}
use Rattle.std.proofs.Math.Path.{refl, ap}
use mathlib.Core.List.{List, [], ◌∷◌, ◌++◌}
use Prim.Native.Nat.{ℕ, zero, suc, ◌+◌, ◌*◌, ◌≤◌, ◌<◌, max}
use Rattle.std.proofs.Common.{add-one, arith}
use Rattle.std.specs.Float.{Format, nan}
use Rattle.std.specs.Float.Ieee.{add}
use Rattle.ieee.specs.Units.{magnitude}
use Rattle.extract.specs.Extract.{high_part, largest}
use Rattle.extract.specs.ExtractLaws.{largest_none, largest_next, largest_join}
use Rattle.extract.specs.LargestLaws.{Stands, larger, kept}
use Rattle.extract.specs.Grouped.{spread, spreads}

module _ (f : Format) (sigma : Float) where
  pub spread_none : (ts : List Float) → spread f sigma ts [] ≡ ts
  unfolding spread
  spread_none [] = refl
  spread_none (t ∷ ts) = refl

  pub spread_length : (ts xs : List Float) → length (spread f sigma ts xs) ≡ length ts
  unfolding spread
  spread_length [] xs = refl
  spread_length (t ∷ ts) [] = refl
  spread_length (t ∷ ts) (x ∷ xs) = ap suc (spread_length ts xs)

  spread_suc : (ts xs : List Float) (k : ℕ) → k < length ts → k < length xs
      → set (spread f sigma ts (take k xs)) k (add f (get_or (spread f sigma ts (take k xs)) k nan) (high_part f sigma (get_or xs k nan)))
      ≡ spread f sigma ts (take (suc k) xs)
  unfolding spread
  spread_suc [] xs k h l = absurd (omega arith)
  spread_suc (t ∷ ts) [] k h l = absurd (omega arith)
  spread_suc (t ∷ ts) (x ∷ xs) zero h l = ap (λ (r : List Float). add f t (high_part f sigma x) ∷ r) (rw (spread_none ts))
  spread_suc (t ∷ ts) (x ∷ xs) (suc k) h l = ap (λ (r : List Float). add f t (high_part f sigma x) ∷ r) (spread_suc ts xs k (omega arith) (omega arith))

  -- a store at k
  pub spread_next : (ts xs : List Float) (k : ℕ) → k < length ts → k < length xs
      → set (spread f sigma ts (take k xs)) k (add f (get_or (spread f sigma ts (take k xs)) k nan) (high_part f sigma (get_or xs k nan)))
      ≡ spread f sigma ts (take (k + 1) xs)
  spread_next ts xs k h l = rw add-one (spread_suc ts xs k h l)

  pub spreads_length : (xs : List Float) (i : ℕ) → length (spreads f sigma xs i) ≡ 8
  unfolding spreads
  spreads_length xs zero = refl
  spreads_length xs (suc i) = rw (spread_length (spreads f sigma xs i) (take 8 (drop (8 * i) xs))) (spreads_length xs i)

-- ---- r is the greatest pattern of xs and one that was there before
pub record Raised (f : Format) (p : ℕ) (xs : List Float) (r : ℕ) : Type 0 where
  pub stands : (n : ℕ) → Stands f p n → Stands f r (max n (largest f xs))

module _ (f : Format) {p : ℕ} where
  pub raised_none : Raised f p [] p
  raised_none = record { stands = λ n P. let e : max n (largest f []) ≡ n = rw (largest_none f) (omega arith) in rw e P }

  module _ {xs : List Float} {r : ℕ} (R : Raised f p xs r) (x : Float) {q : ℕ} (Q : Stands f q (magnitude f x)) where
    after : (n : ℕ) → max n (largest f (xs ++ (x ∷ []))) ≡ max (max n (largest f xs)) (magnitude f x)
    after n = rw (largest_next f xs x) (omega arith)

    pub raised_larger : r < q → Raised f p (xs ++ (x ∷ [])) q
    raised_larger h = record { stands = λ n P. rw (after n) (larger f (R.stands n P) Q h) }

    pub raised_kept : q ≤ r → Raised f p (xs ++ (x ∷ [])) r
    raised_kept h = record { stands = λ n P. rw (after n) (kept f (R.stands n P) Q h) }

  pub raised_join : {q r : ℕ} {xs ys : List Float} → Raised f p xs q → Raised f q ys r → Raised f p (xs ++ ys) r
  raised_join {xs = xs} {ys} R S = record { stands = λ n P. rw (joins n) (S.stands (max n (largest f xs)) (R.stands n P)) }
    where
      joins : (n : ℕ) → max n (largest f (xs ++ ys)) ≡ max (max n (largest f xs)) (largest f ys)
      joins n = rw (largest_join f xs ys) (omega arith)
