-- A number, or several, taken in their places: what is read there, and what the area is after the store. Assumes nothing.
use Rattle.std.specs.Prelude.{◌≡◌, List, ◌++◌, ℕ, ◌+◌, ◌≤◌, ◌<◌, length, take, drop, get_or, set, Float}
use Rattle.std.proofs.Common.{sym, ap, ◌∙◌, append_assoc, arith, length-take-le, take_at, drop_at, take-add, drop-drop}
use Rattle.std.specs.Float.{Format}
use Rattle.std.specs.Float.Ieee.{nan}
use Rattle.lists.proofs.Front.{read_front, store_map}
use Rattle.extract.specs.Extract.{remainder_of, remainders}
use Rattle.extract.specs.ExtractLaws.{remainders_length, remainders_join}

-- the first i numbers of l have been taken
module _ (f : Format) (sigma : Float) (l : List Float) (i : ℕ) (h : i < length l) {area : List Float}
    (e : area ≡ remainders f sigma (take i l) ++ drop i l) where
  pub turn_read : get_or area i nan ≡ get_or l i nan
  turn_read = rw e (read_front nan (remainders f sigma (take i l)) l i (remainders_length f sigma (take i l) ∙ length-take-le i l (omega arith)) h)

  pub turn_stored : set area i (remainder_of f sigma (get_or area i nan)) ≡ remainders f sigma (take (i + 1) l) ++ drop (i + 1) l
  unfolding remainders
  turn_stored = rw (turn_read, e) (store_map (remainder_of f sigma) l l i nan nan h h)

-- ---- n numbers at once, from the k-th on: what is read there, and what the area is after they are stored
module _ (f : Format) (sigma : Float) (l : List Float) (k n : ℕ) (h : k ≤ length l) {area : List Float}
    (e : area ≡ remainders f sigma (take k l) ++ drop k l) where
  size : length (remainders f sigma (take k l)) ≡ k
  size = remainders_length f sigma (take k l) ∙ length-take-le k l h

  rest : drop k area ≡ drop k l
  rest = rw e (drop_at (remainders f sigma (take k l)) (drop k l) k size)

  pub part_read : take n (drop k area) ≡ take n (drop k l)
  part_read = ap (take n) rest

  pub part_stored : take k area ++ (remainders f sigma (take n (drop k l)) ++ drop n (drop k area)) ≡ remainders f sigma (take (k + n) l) ++ drop (k + n) l
  part_stored =
      rw (rest, drop-drop, e, take_at (remainders f sigma (take k l)) (drop k l) k size, take-add k n l, remainders_join f sigma (take k l) (take n (drop k l)))
      (sym (append_assoc (remainders f sigma (take k l)) (remainders f sigma (take n (drop k l))) (drop (k + n) l)))
