-- A test of every member of a list, and what a look at every place that joins the tests without leaving its loop passes and ends with. Assumes nothing.
use Rattle.std.specs.Prelude.{◌≡◌, refl, Bool, true, false, not, ◌&&◌, ◌||◌, List, [], ◌∷◌, ℕ, suc, ◌+◌, ◌≤◌, ◌<◌, length, get_or, drop}
use Rattle.std.proofs.Math.Path.{sym}
use Rattle.std.proofs.Common.{◌∙◌, add-one, drop_of_length-le}
use Rattle.std.proofs.Math.Bool.{and-true, and_assoc}
use Rattle.std.proofs.Math.Seq.{drop-cons}

unfoldable pub every : {A : Type 0} → (A → Bool) → List A → Bool
every test [] = true
every test (x ∷ xs) = test x && every test xs

-- ---- the places before i have been looked at, and good says whether each of them passed
pub record Looked {A : Type 0} (test : A → Bool) (xs : List A) (good : Bool) (i : ℕ) : Type 0 where
  pub rest : every test xs ≡ (good && every test (drop i xs))

module _ {A : Type 0} {test : A → Bool} {xs : List A} where
  pub looked_none : Looked test xs true 0
  looked_none = record { rest = refl }

  module _ {good : Bool} {i : ℕ} (L : Looked test xs good i) where
    pub looked_next : (d : A) → i < length xs → (b : Bool) → b ≡ test (get_or xs i d) → Looked test xs (good && b) (i + 1)
    unfolding every
    looked_next d l b e = record {
      rest = L.rest ∙ rw (add-one, drop-cons xs i d, ← e) (sym (and_assoc good b (every test (drop (suc i) xs))));
    }

    pub looked_all : length xs ≤ i → good ≡ every test xs
    unfolding every
    looked_all h = sym (L.rest ∙ rw (drop_of_length-le xs {i = i} h) (and-true good))

  -- the same where the loop keeps whether one did not pass
  pub looked_over : (over : Bool) {i : ℕ} → Looked test xs (not over) i → (d : A) → i < length xs → (b : Bool) → not b ≡ test (get_or xs i d)
      → Looked test xs (not (over || b)) (i + 1)
  looked_over over L d l b e = rw (neither over b) (looked_next L d l (not b) e)
    where
      neither : (a b : Bool) → not (a || b) ≡ (not a && not b)
      neither true b = refl
      neither false b = refl
