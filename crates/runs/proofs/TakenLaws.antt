-- The area and the numbers taken of a joined list; where all places of a part are pending, where none is, and where two sets agree. Assumes nothing.
use Rattle.std.specs.Prelude.{◌≡◌, Bool, Float}
use Rattle.std.proofs.Math.Path.{refl, ap}
use Rattle.std.proofs.Math.Bool.{true, false, cond}
use mathlib.Core.List.{List, [], ◌∷◌, ◌++◌, map}
use Prim.Native.Nat.{ℕ, suc, ◌+◌, ◌≤◌}
use native.Mathlib.Omega.{arith}
use Rattle.std.proofs.Math.ListN.{length}
use Rattle.std.specs.Float.{Format}
use Rattle.lists.specs.Each.{Each}
use Rattle.extract.specs.Extract.{remainder_of, remainders}
use Rattle.runs.specs.Taken.{mixed, taken_of}
use Rattle.runs.specs.TakenLaws.{Throughout}

module _ {A : ℕ → Type 0} (i k : ℕ) (h : Throughout A i (suc k)) where
  here : A i
  here = h i (omega arith) (omega arith)

  beyond : Throughout A (suc i) k
  beyond j l m = h j (omega arith) (omega arith)

-- ---- a joined list
module _ (pend : ℕ → Bool) where
  pub taken_join : (i : ℕ) (xs ys : List Float) → taken_of pend i (xs ++ ys) ≡ taken_of pend i xs ++ taken_of pend (i + length xs) ys
  unfolding taken_of
  taken_join i [] ys = let z : i + 0 ≡ i = omega arith in rw z
  taken_join i (x ∷ xs) ys =
      let z : i + suc (length xs) ≡ suc i + length xs = omega arith in
      rw z (go (pend i) (taken_of pend (suc i) xs) (taken_of pend (suc i + length xs) ys) (taken_join (suc i) xs ys))
    where
      go : (b : Bool) {us : List Float} (vs ws : List Float) → us ≡ vs ++ ws → cond b us (x ∷ us) ≡ cond b vs (x ∷ vs) ++ ws
      go true vs ws e = e
      go false vs ws e = ap (λ (l : List Float). x ∷ l) e

  pub taken_fewer : (i : ℕ) (xs : List Float) → length (taken_of pend i xs) ≤ length xs
  unfolding taken_of
  taken_fewer i [] = omega arith
  taken_fewer i (x ∷ xs) = go (pend i) (taken_of pend (suc i) xs) (taken_fewer (suc i) xs)
    where
      go : (b : Bool) (us : List Float) → length us ≤ length xs → length (cond b us (x ∷ us)) ≤ suc (length xs)
      go true us h = omega arith
      go false us h = omega arith

  pub taken_each : (P : Float → Type 0) (i : ℕ) (xs : List Float) → Each P xs → Each P (taken_of pend i xs)
  unfolding taken_of
  taken_each P i [] h = tt
  taken_each P i (x ∷ xs) h = go (pend i) (taken_each P (suc i) xs h.1)
    where
      go : (b : Bool) → Each P (taken_of pend (suc i) xs) → Each P (cond b (taken_of pend (suc i) xs) (x ∷ taken_of pend (suc i) xs))
      go true r = r
      go false r = (h.0, r)

  module _ (f : Format) (sigma : Float) where
    -- at the places that were taken stand their remainders
    pub taken_mixed : (i : ℕ) (xs : List Float) → taken_of pend i (mixed f sigma pend i xs) ≡ remainders f sigma (taken_of pend i xs)
    unfolding taken_of mixed remainders
    taken_mixed i [] = refl
    taken_mixed i (x ∷ xs) = go (pend i) (taken_mixed (suc i) xs)
      where
        go : (b : Bool) → taken_of pend (suc i) (mixed f sigma pend (suc i) xs) ≡ map (remainder_of f sigma) (taken_of pend (suc i) xs)
            → cond b (taken_of pend (suc i) (mixed f sigma pend (suc i) xs))
            (cond b x (remainder_of f sigma x) ∷ taken_of pend (suc i) (mixed f sigma pend (suc i) xs))
            ≡ map (remainder_of f sigma) (cond b (taken_of pend (suc i) xs) (x ∷ taken_of pend (suc i) xs))
        go true e = e
        go false e = ap (λ (l : List Float). remainder_of f sigma x ∷ l) e

    pub mixed_join : (i : ℕ) (xs ys : List Float) → mixed f sigma pend i (xs ++ ys) ≡ mixed f sigma pend i xs ++ mixed f sigma pend (i + length xs) ys
    unfolding mixed
    mixed_join i [] ys = let z : i + 0 ≡ i = omega arith in rw z
    mixed_join i (x ∷ xs) ys =
        let z : i + suc (length xs) ≡ suc i + length xs = omega arith in
        rw z (ap (λ (l : List Float). cond (pend i) x (remainder_of f sigma x) ∷ l) (mixed_join (suc i) xs ys))

    pub mixed_length : (i : ℕ) (xs : List Float) → length (mixed f sigma pend i xs) ≡ length xs
    unfolding mixed
    mixed_length i [] = refl
    mixed_length i (x ∷ xs) = ap suc (mixed_length (suc i) xs)

    -- what holds of a number and of its remainder holds of each place
    pub mixed_each : (P : Float → Type 0) → ((x : Float) → P x → P (remainder_of f sigma x)) → (i : ℕ) (xs : List Float) → Each P xs
        → Each P (mixed f sigma pend i xs)
    unfolding mixed
    mixed_each P r i [] h = tt
    mixed_each P r i (x ∷ xs) h = (go (pend i), mixed_each P r (suc i) xs h.1)
      where
        go : (b : Bool) → P (cond b x (remainder_of f sigma x))
        go true = h.0
        go false = r x h.0

  -- ---- all places pending, and none
  pub taken_nothing : (i : ℕ) (xs : List Float) → Throughout (λ j. pend j ≡ true) i (length xs) → taken_of pend i xs ≡ []
  unfolding taken_of
  taken_nothing i [] h = refl
  taken_nothing i (x ∷ xs) h = rw (here i (length xs) h) (taken_nothing (suc i) xs (beyond i (length xs) h))

  pub taken_all : (i : ℕ) (xs : List Float) → Throughout (λ j. pend j ≡ false) i (length xs) → taken_of pend i xs ≡ xs
  unfolding taken_of
  taken_all i [] h = refl
  taken_all i (x ∷ xs) h = rw (here i (length xs) h) (ap (λ (l : List Float). x ∷ l) (taken_all (suc i) xs (beyond i (length xs) h)))

  module _ (f : Format) (sigma : Float) where
    pub mixed_nothing : (i : ℕ) (xs : List Float) → Throughout (λ j. pend j ≡ true) i (length xs) → mixed f sigma pend i xs ≡ xs
    unfolding mixed
    mixed_nothing i [] h = refl
    mixed_nothing i (x ∷ xs) h = rw (here i (length xs) h) (ap (λ (l : List Float). x ∷ l) (mixed_nothing (suc i) xs (beyond i (length xs) h)))

    pub mixed_all : (i : ℕ) (xs : List Float) → Throughout (λ j. pend j ≡ false) i (length xs) → mixed f sigma pend i xs ≡ remainders f sigma xs
    unfolding mixed remainders
    mixed_all i [] h = refl
    mixed_all i (x ∷ xs) h = rw (here i (length xs) h) (ap (λ (l : List Float). remainder_of f sigma x ∷ l) (mixed_all (suc i) xs (beyond i (length xs) h)))

-- ---- two sets that agree
module _ (pend pend' : ℕ → Bool) where
  pub taken_agree : (i : ℕ) (xs : List Float) → Throughout (λ j. pend j ≡ pend' j) i (length xs) → taken_of pend i xs ≡ taken_of pend' i xs
  unfolding taken_of
  taken_agree i [] h = refl
  taken_agree i (x ∷ xs) h =
      let e = here i (length xs) h in
      let r = taken_agree (suc i) xs (beyond i (length xs) h) in
      λ k. cond (e k) (r k) (x ∷ r k)

  pub mixed_agree : (f : Format) (sigma : Float) (i : ℕ) (xs : List Float) → Throughout (λ j. pend j ≡ pend' j) i (length xs)
      → mixed f sigma pend i xs ≡ mixed f sigma pend' i xs
  unfolding mixed
  mixed_agree f sigma i [] h = refl
  mixed_agree f sigma i (x ∷ xs) h =
      let e = here i (length xs) h in
      let r = mixed_agree f sigma (suc i) xs (beyond i (length xs) h) in
      λ k. cond (e k) x (remainder_of f sigma x) ∷ r k
