-- A list or an area of a width's patterns or floats, read as the definitions read it: at a place, in length, and in pieces. Assumes nothing.
use Rattle.std.specs.Prelude.{◌≡◌, List, map, ℕ, ◌<◌, length, get_or}
use Rattle.std.proofs.Common.{sym, ap, ◌∙◌}
use Rattle.std.proofs.lemmas.List.{get_or-map, length-map}

module _ {A B : Type 0} (v : A → B) where
  pub read_at : (xs : List A) (i : ℕ) (x : A) (d : B) → x ≡ get_or xs i x → i < length xs → v x ≡ get_or (map v xs) i d
  read_at xs i x d e h = ap v e ∙ sym (get_or-map v xs i x d h)

  -- where a width says of its lists that each member is read
  module _ (read : List A → List B) (each : (xs : List A) → read xs ≡ map v xs) where
    pub read_length : (xs : List A) → length (read xs) ≡ length xs
    read_length xs = ap length (each xs) ∙ length-map xs v

    pub read_place : (xs : List A) (i : ℕ) (x : A) (d : B) → x ≡ get_or xs i x → i < length xs → v x ≡ get_or (read xs) i d
    read_place xs i x d e h = read_at xs i x d e h ∙ ap (λ (ys : List B). get_or ys i d) (sym (each xs))
