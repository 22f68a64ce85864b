-- A block that is cut at the end of the area is what is there of it, and a part of an area has what each of its places has. Assumes nothing.
use Rattle.std.specs.Prelude.{◌≡◌, ◌⊎◌, List, map, ℕ, ◌+◌, ◌-◌, ◌≤◌, ◌<◌, min, length, take, drop, Float}
use Rattle.std.proofs.Common.{sym, ◌∙◌, inl, inr, arith, length-drop, drop_of_length-le, take_all}
use Rattle.units.proofs.Powers.{le_or_lt}
use Rattle.lists.specs.Each.{Each, each_take, each_drop}
use Rattle.extract.proofs.AreaLaws.{read_take, read_drop}

module _ {A : Type 0} (xs : List A) (a k : ℕ) where
  pub take_cut : take (min (a + k) (length xs) - a) (drop a xs) ≡ take k (drop a xs)
  take_cut = go (le_or_lt (a + k) (length xs))
    where
      go : (a + k ≤ length xs) ⊎ (length xs < a + k) → take (min (a + k) (length xs) - a) (drop a xs) ≡ take k (drop a xs)
      go (inl l) = let e : min (a + k) (length xs) - a ≡ k = omega arith in rw e
      go (inr l) =
          take_all (min (a + k) (length xs) - a) (drop a xs) (rw (length-drop a xs) (omega arith))
          ∙ sym (take_all k (drop a xs) (rw (length-drop a xs) (omega arith)))

  pub drop_cut : drop (min (a + k) (length xs)) xs ≡ drop (a + k) xs
  drop_cut = go (le_or_lt (a + k) (length xs))
    where
      go : (a + k ≤ length xs) ⊎ (length xs < a + k) → drop (min (a + k) (length xs)) xs ≡ drop (a + k) xs
      go (inl l) = let e : min (a + k) (length xs) ≡ a + k = omega arith in rw e
      go (inr l) = drop_of_length-le xs {i = min (a + k) (length xs)} (omega arith) ∙ sym (drop_of_length-le xs {i = a + k} (omega arith))

module _ {A : Type 0} (v : A → Float) (read : List A → List Float) (each : (xs : List A) → read xs ≡ map v xs) (P : Float → Type 0) where
  pub each_part : (xs : List A) (k from : ℕ) → Each P (read xs) → Each P (read (take k (drop from xs)))
  each_part xs k from h =
      rw (read_take v read each k (drop from xs), read_drop v read each from xs) (each_take P k (drop from (read xs)) (each_drop P from (read xs) h))
