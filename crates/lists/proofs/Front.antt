-- A list whose first i places are done, `a ++ drop i l`: what a loop that stores at i reads and leaves, and what a loop that maps one list into another
-- leaves at each place and at the end. Assumes nothing.
use Rattle.std.specs.Prelude.{◌≡◌, refl, List, [], ◌∷◌, ◌++◌, map, ℕ, zero, suc, ◌+◌, ◌≤◌, ◌<◌, length, take, drop, get_or, set}
use Rattle.std.proofs.Common.{sym, ◌∙◌, append_assoc, append-nil, add-one, arith, length-append, length-drop, drop_of_length-le, drop-cons, take-suc, take_all}
use Rattle.std.proofs.Common.{length-take-le}
use Rattle.std.proofs.lemmas.List.{map-append, length-map, get_or_at, set_at}

module _ {A : Type 0} (d : A) (a l : List A) (i : ℕ) (e : length a ≡ i) (h : i < length l) where
  pub read_front : get_or (a ++ drop i l) i d ≡ get_or l i d
  read_front = rw (drop-cons l i d) (get_or_at a _ _ d i e)

  pub store_front : (v : A) → set (a ++ drop i l) i v ≡ (a ++ (v ∷ [])) ++ drop (i + 1) l
  store_front v = rw (drop-cons l i d, add-one) (set_at a _ _ v i e ∙ sym (append_assoc a (v ∷ []) _))

pub length_front : {A : Type 0} (a l : List A) (i : ℕ) → length a ≡ i → i ≤ length l → length (a ++ drop i l) ≡ length l
length_front a l i e h = omega (arith, length-append a (drop i l), length-drop i l)

pub take_next : {A : Type 0} (d : A) (l : List A) (i : ℕ) → i < length l → take (i + 1) l ≡ take i l ++ (get_or l i d ∷ [])
take_next d l i h = rw add-one (take-suc l i d h)

-- ---- ps mapped into the places of l. d and e stand for what is past the end of either
module _ {A B : Type 0} (f : A → B) (ps : List A) (l : List B) (i : ℕ) where
  pub store_map : (d : A) (e : B) → i < length ps → i < length l
      → set (map f (take i ps) ++ drop i l) i (f (get_or ps i d)) ≡ map f (take (i + 1) ps) ++ drop (i + 1) l
  store_map d e h k = rw (take_next d ps i, map-append) (store_front e (map f (take i ps)) l i size k (f (get_or ps i d)))
    where
      size : length (map f (take i ps)) ≡ i
      size = length-map (take i ps) f ∙ length-take-le i ps (omega arith)

  pub end_map : length ps ≤ i → length l ≤ i → map f (take i ps) ++ drop i l ≡ map f ps
  end_map h k = rw (take_all i ps, drop_of_length-le l {i = i}) (append-nil (map f ps))

pub map_at : {A B : Type 0} (f : A → B) (ps : List A) (i : ℕ) (d : A) (e : B) → i < length ps → get_or (map f ps) i e ≡ f (get_or ps i d)
map_at f [] i d e h = absurd (omega arith)
map_at f (x ∷ ps) zero d e h = refl
map_at f (x ∷ ps) (suc i) d e h = map_at f ps i d e (omega arith)
