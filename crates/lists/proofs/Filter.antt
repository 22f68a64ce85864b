-- The members of a list that pass a test, in their order: how many there are, that each passes, that nothing is left out where all do, and what a loop over
-- the places has come to. Assumes nothing.
use Rattle.std.specs.Prelude.{◌≡◌, Bool, not, ◌&&◌, get_or, drop}
use Rattle.std.proofs.Math.Path.{refl, ap}
use Rattle.std.proofs.Common.{sym, ◌∙◌, add-one, drop_of_length-le, drop-cons}
use Rattle.std.proofs.Math.Bool.{true, false, cond}
use mathlib.Core.List.{List, [], ◌∷◌}
use Prim.Native.Nat.{ℕ, suc, ◌+◌, ◌≤◌, ◌<◌}
use native.Mathlib.Omega.{arith}
use Rattle.std.proofs.Math.ListN.{length, length-drop}
use Rattle.lists.proofs.Apart.{apart}
use Rattle.lists.specs.Digits.{Digits}
use Rattle.lists.specs.DigitLaws.{digits_head, digits_tail, digits_more}
use Rattle.lists.specs.Every.{every}
use Rattle.lists.specs.Filter.{filter, others, Sifted}

module _ {A : Type 0} (test : A → Bool) where
  pub filter_others : (xs : List A) → length (filter test xs) + length (others test xs) ≡ length xs
  unfolding filter
  filter_others [] = refl
  filter_others (x ∷ xs) = go (test x) (filter_others xs)
    where
      go : (b : Bool) → length (filter test xs) + length (others test xs) ≡ length xs
          → length (cond b (x ∷ filter test xs) (filter test xs)) + length (cond (not b) (x ∷ others test xs) (others test xs)) ≡ suc (length xs)
      go true h = omega arith
      go false h = omega arith

  pub filter_passes : (xs : List A) → every test (filter test xs) ≡ true
  unfolding filter every
  filter_passes [] = refl
  filter_passes (x ∷ xs) = go (test x) refl (filter_passes xs)
    where
      go : (b : Bool) → test x ≡ b → every test (filter test xs) ≡ true → every test (cond b (x ∷ filter test xs) (filter test xs)) ≡ true
      go true e h = rw (e, h)
      go false e h = h

  pub filter_all : (xs : List A) → every test xs ≡ true → filter test xs ≡ xs
  unfolding filter every
  filter_all [] h = refl
  filter_all (x ∷ xs) h = go (test x) h (filter_all xs)
    where
      go : (b : Bool) → (b && every test xs) ≡ true → (every test xs ≡ true → filter test xs ≡ xs) → cond b (x ∷ filter test xs) (filter test xs) ≡ x ∷ xs
      go true h f = ap (λ (l : List A). x ∷ l) (f h)
      go false h f = apart (cc)

pub filter_digits : (w : ℕ) (test : ℕ → Bool) (ds : List ℕ) → Digits w ds → Digits w (filter test ds)
unfolding filter
filter_digits w test [] D = D
filter_digits w test (d ∷ ds) D = go (test d) (filter_digits w test ds (digits_tail w D))
  where
    go : (b : Bool) → Digits w (filter test ds) → Digits w (cond b (d ∷ filter test ds) (filter test ds))
    go true F = digits_more w (digits_head w D) F
    go false F = F

module _ {A : Type 0} {test : A → Bool} {xs : List A} where
  pub sifted_none : Sifted test xs 0 0
  sifted_none = record { inside = omega arith; rest = refl }

  module _ {k i : ℕ} (S : Sifted test xs k i) where
    module _ (d : A) (h : i < length xs) where
      -- the next place passes: it is the next of those that do
      module _ (e : test (get_or xs i d) ≡ true) where
        next : drop k (filter test xs) ≡ get_or xs i d ∷ filter test (drop (suc i) xs)
        unfolding filter
        next = S.rest ∙ rw (drop-cons xs i d h, e)

        pub sifted_inside : k < length (filter test xs)
        sifted_inside =
            let l : length (drop k (filter test xs)) ≡ suc (length (filter test (drop (suc i) xs))) = ap length next in
            omega (arith, S.inside, length-drop k (filter test xs), l)

        split : get_or (filter test xs) k d ∷ drop (suc k) (filter test xs) ≡ get_or xs i d ∷ filter test (drop (suc i) xs)
        split = sym (drop-cons (filter test xs) k d sifted_inside) ∙ next

        pub sifted_at : get_or (filter test xs) k d ≡ get_or xs i d
        sifted_at = let s = split in cc

        pub sifted_pass : Sifted test xs (k + 1) (i + 1)
        sifted_pass =
            let s = split in
            let r : drop (suc k) (filter test xs) ≡ filter test (drop (suc i) xs) = cc in
            record { inside = omega (arith, sifted_inside); rest = rw (add-one, add-one) r }

      pub sifted_fail : test (get_or xs i d) ≡ false → Sifted test xs k (i + 1)
      unfolding filter
      sifted_fail e = record { inside = S.inside; rest = S.rest ∙ rw (drop-cons xs i d h, e, add-one) }

    pub sifted_all : length xs ≤ i → k ≡ length (filter test xs)
    unfolding filter
    sifted_all h =
        let l : length (drop k (filter test xs)) ≡ 0 = ap length (S.rest ∙ ap (filter test) (drop_of_length-le xs {i = i} h)) in
        omega (arith, S.inside, length-drop k (filter test xs), l)
