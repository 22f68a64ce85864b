-- Two lists of one length taken together: how many pairs there are, which one stands at a place, and what a loop over both takes at a turn. Assumes nothing.
use Rattle.std.specs.Prelude.{◌≡◌, length, get_or, Option, Some}
use Rattle.std.specs.declared.iter.Zip.{Zip}
use Rattle.std.specs.Iterator.{Yields}
use Rattle.std.specs.Iterator.Adapters.{zip_first, zip_second}
use Rattle.std.specs.Slice.Iter.{iter_rest}
use Rattle.std.proofs.Math.Path.{refl, sym, ap}
use mathlib.Core.List.{List, [], ◌∷◌, zip, zip_with}
use Prim.Native.Nat.{ℕ, zero, suc, ◌<◌}
use Rattle.std.proofs.Common.{Iter, arith}
use Rattle.std.proofs.iter.Yields.{fronts}
use Rattle.std.proofs.lemmas.Iterator.{zips}
use Rattle.std.proofs.lemmas.Slice.Zip.{zip_turn}
use denote.Ref.{Bor}
use Rattle.pairs.specs.Table.{pair_at}

module _ {A B : Type 0} where
  pub zip_length : (xs : List A) (ys : List B) → length xs ≡ length ys → length (zip xs ys) ≡ length xs
  unfolding zip zip_with
  zip_length [] [] e = refl
  zip_length [] (y ∷ ys) e = absurd (omega arith)
  zip_length (x ∷ xs) [] e = absurd (omega arith)
  zip_length (x ∷ xs) (y ∷ ys) e = ap suc (zip_length xs ys (omega arith))

  pub zip_at : (xs : List A) (ys : List B) → length xs ≡ length ys → (a : A) (b : B) (i : ℕ) → i < length xs
      → get_or (zip xs ys) i (a, b) ≡ (get_or xs i a, get_or ys i b)
  unfolding zip zip_with
  zip_at [] [] e a b i h = absurd (omega arith)
  zip_at [] (y ∷ ys) e a b i h = absurd (omega arith)
  zip_at (x ∷ xs) [] e a b i h = absurd (omega arith)
  zip_at (x ∷ xs) (y ∷ ys) e a b zero h = refl
  zip_at (x ∷ xs) (y ∷ ys) e a b (suc i) h = zip_at xs ys (omega arith) a b i (omega arith)

-- a loop over both lists has taken the pairs ts, and takes p
pub zip_takes : (xs ys : List ℕ) → length xs ≡ length ys → (ts : List (Bor ℕ × Bor ℕ)) (s t u : Zip (Iter ℕ) (Iter ℕ)) (r : Option (Bor ℕ × Bor ℕ))
    → iter_rest (zip_first s) ≡ xs → iter_rest (zip_second s) ≡ ys → Yields (zips fronts fronts) s ts t
    → (p : Bor ℕ × Bor ℕ) → r ≡ Some p → zips fronts fronts t r u
    → (length ts < length xs) × (pair_at xs ys (length ts) ≡ (p.0.now, p.1.now))
zip_takes xs ys e ts s t u r first second y p was next =
    let k = zip_turn xs ys ts s t u r first second y p was next in
    (k.0, λ i. (sym (k.2 0) i, sym (k.3 0) i))
