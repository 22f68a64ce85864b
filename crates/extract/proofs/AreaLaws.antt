-- An area of a width's numbers, read as floats: what a store, a joint and a cut are then, and what is read at a place and left after a store while the area's
-- numbers are taken. Assumes nothing.
use Rattle.std.specs.Prelude.{◌≡◌, List, ◌++◌, map, ℕ, ◌+◌, ◌<◌, length, take, drop, get_or, set, Float}
use Rattle.std.proofs.Common.{sym, ap, ◌∙◌}
use Rattle.std.specs.Float.{Format}
use Rattle.std.specs.Float.Ieee.{nan}
use Rattle.std.proofs.lemmas.List.{map-set, map-append, take-map, drop-map}
use Rattle.kinds.proofs.Areas.{read_place, read_length}
use Rattle.extract.specs.Extract.{remainder_of, remainders}
use Rattle.extract.proofs.TurnLaws.{turn_read, turn_stored}

module _ {A : Type 0} (v : A → Float) (read : List A → List Float) (each : (xs : List A) → read xs ≡ map v xs) where
  pub read_set : (xs : List A) (i : ℕ) (x : A) → read (set xs i x) ≡ set (read xs) i (v x)
  read_set xs i x = each (set xs i x) ∙ map-set v xs i x ∙ ap (λ (ys : List Float). set ys i (v x)) (sym (each xs))

  pub read_join : (xs ys : List A) → read (xs ++ ys) ≡ read xs ++ read ys
  read_join xs ys = each (xs ++ ys) ∙ map-append v xs ys ∙ rw (each xs, each ys)

  pub read_take : (k : ℕ) (xs : List A) → read (take k xs) ≡ take k (read xs)
  read_take k xs = each (take k xs) ∙ sym (take-map v k xs) ∙ ap (take k) (sym (each xs))

  pub read_drop : (k : ℕ) (xs : List A) → read (drop k xs) ≡ drop k (read xs)
  read_drop k xs = each (drop k xs) ∙ sym (drop-map v k xs) ∙ ap (drop k) (sym (each xs))

  pub inside : (xs : List A) (i : ℕ) → i < length xs → i < length (read xs)
  inside xs i h = rw (read_length v read each xs) h

  -- the first i numbers of l have been taken
  module _ (f : Format) (sigma : Float) (l : List A) (i : ℕ) (h : i < length l) (area : List A) (k : length area ≡ length l)
      (e : read area ≡ remainders f sigma (take i (read l)) ++ drop i (read l)) where
    at : (x : A) → x ≡ get_or area i x → v x ≡ get_or (read area) i nan
    at x is = read_place v read each area i x nan is (rw k h)

    pub area_read : (x : A) → x ≡ get_or area i x → v x ≡ get_or (read l) i nan
    area_read x is = at x is ∙ turn_read f sigma (read l) i (inside l i h) e

    pub area_stored : (x y : A) → x ≡ get_or area i x → v y ≡ remainder_of f sigma (v x)
        → read (set area i y) ≡ remainders f sigma (take (i + 1) (read l)) ++ drop (i + 1) (read l)
    area_stored x y is s = read_set area i y ∙ rw (s, at x is) (turn_stored f sigma (read l) i (inside l i h) e)
