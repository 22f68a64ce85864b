-- `extract::grouped::extract_grouped` meets its contract: the turns of eight and what is behind them are the area. Assumes nothing.
use mathlib.Core.Path.{◌≡◌, sym, ap, ◌∙◌}
use mathlib.Core.List.{List, ◌++◌, append-nil, map}
use Prim.Native.Nat.{ℕ, ◌+◌, ◌-◌, ◌*◌, ◌/◌, ◌≤◌, max}
use native.Mathlib.Omega.{arith}
use borrow.Author.Rules.{rules}
use lib.Dec.{T}
use lib.Ieee.{Format, Float}
use lib.Ieee.Scale.{finite}
use lib.ListN.{length, take, drop, length-drop, take-append-drop, drop_of_length-le}
use lib.Seq.{take_all}
use Rattle.lists.specs.Each.{each_take, each_drop}
use Rattle.ieee.specs.Units.{magnitude}
use Rattle.ieee.proofs.Pattern.{pattern_no_nan}
use Rattle.extract.specs.Extract.{remainder_of, remainders, gathered, largest, largest_with}
use Rattle.extract.specs.ExtractLaws.{remainders_join}
use Rattle.kinds.proofs.Areas.{read_length}
use Rattle.extract.proofs.AreaLaws.{read_join, read_take, read_drop}
use Rattle.extract.proofs.TurnLaws.{part_read, part_stored}
use Rattle.extract.specs.LargestLaws.{Stands}
use Rattle.extract.proofs.LargestWithLaws.{positive_here, positive_stands, stands_positive, stands_with, with_join, remainders_numbers}
use Rattle.extract.proofs.grouped.extract_grouped.Goals as goal

-- the area after the turns: k numbers are taken, and n are left
module _ {A : Type 0} (v : A → Float) (read : List A → List Float) (each : (xs : List A) → read xs ≡ map v xs) (f : Format) (sigma : Float) (l area : List A)
    (k : ℕ) (h : k ≤ length l) (e : read area ≡ remainders f sigma (take k (read l)) ++ drop k (read l)) (s : length area ≡ length l) where
  inside : k ≤ length (read l)
  inside = rw (read_length v read each l) h

  left : read (take (length area - k) (drop k area)) ≡ drop k (read l)
  left =
      rw (read_take v read each (length area - k) (drop k area), read_drop v read each k area)
      (part_read f sigma (read l) k (length area - k) inside e
      ∙ take_all (length area - k) (drop k (read l)) (rw (length-drop k (read l), read_length v read each l) (omega arith)))

  all : remainders f sigma (take k (read l)) ++ remainders f sigma (drop k (read l)) ≡ remainders f sigma (read l)
  all = sym (remainders_join f sigma (take k (read l)) (drop k (read l))) ∙ ap (remainders f sigma) (take-append-drop k (read l))

  stored : (ys : List A) → read ys ≡ remainders f sigma (read (take (length area - k) (drop k area)))
      → read (take k area ++ (ys ++ drop (length area - k) (drop k area))) ≡ remainders f sigma (read l)
  stored ys y =
      let m : k + (length area - k) ≡ length (read l) = rw (read_length v read each l) (omega arith) in
      let end : remainders f sigma (take (length (read l)) (read l)) ++ drop (length (read l)) (read l) ≡ remainders f sigma (read l) =
      rw (take_all (length (read l)) (read l) (omega arith), drop_of_length-le (read l) {i = length (read l)} (omega arith))
      (append-nil (remainders f sigma (read l))) in
      read_join v read each (take k area) (ys ++ drop (length area - k) (drop k area))
      ∙ rw (
        read_join v read each ys,
        y,
        read_take v read each (length area - k) (drop k area),
        read_take v read each k area,
        read_drop v read each (length area - k) (drop k area),
        read_drop v read each k area,
        part_read f sigma (read l) k (length area - k) inside e,
      ) (rw (m, end) at (part_stored f sigma (read l) k (length area - k) inside e))

pub from_bits-most-requires : goal.from_bits-most-requires
from_bits-most-requires g c =
    let f = g.F.Floating.width.format in
    let v = g.F.Floating.value in
    let read = g.F.Floating.values in
    let each = g.met.F.Floating.each_value in
    let a = c.args in
    let xs = read a.work.now in
    let k = 8 * (length a.work.now / 8) in
    let positive = positive_here f (v a.largest) c.turns-sums.ensures.3 c.requires.0 c.requires.1 in
    let stands : Stands f (g.F.Floating.pattern c.turns-sums.result.most) (max (magnitude f (v a.largest)) (largest f (remainders f (v a.sigma) (take k xs)))) =
    c.turns-sums.ensures.2.stands _ (positive_stands f positive) in
    pattern_no_nan f stands.below

pub extract-requires : goal.extract-requires
extract-requires g c =
    let f = g.F.Floating.width.format in
    let v = g.F.Floating.value in
    let read = g.F.Floating.values in
    let each = g.met.F.Floating.each_value in
    let a = c.args in
    let xs = read a.work.now in
    let k = 8 * (length a.work.now / 8) in
    let positive = positive_here f (v a.largest) c.turns-sums.ensures.3 c.requires.0 c.requires.1 in
    let stands : Stands f (g.F.Floating.pattern c.turns-sums.result.most) (max (magnitude f (v a.largest)) (largest f (remainders f (v a.sigma) (take k xs)))) =
    c.turns-sums.ensures.2.stands _ (positive_stands f positive) in
    let P : Float → Type 0 = λ x. T (finite (remainder_of f (v a.sigma) x)) in
    let M = stands_positive f stands in
    let e = left v read each f (v a.sigma) a.work.now c.turns-sums.new.work k (omega arith) c.turns-sums.ensures.1 (search rules) in
    rw c.from_bits-most.ensures (M.number.fini, M.sign, rw e (each_drop P k xs c.requires.2))

pub returns : goal.returns
returns g c =
    let f = g.F.Floating.width.format in
    let v = g.F.Floating.value in
    let read = g.F.Floating.values in
    let each = g.met.F.Floating.each_value in
    let a = c.args in
    let xs = read a.work.now in
    let k = 8 * (length a.work.now / 8) in
    let positive = positive_here f (v a.largest) c.turns-sums.ensures.3 c.requires.0 c.requires.1 in
    let stands : Stands f (g.F.Floating.pattern c.turns-sums.result.most) (max (magnitude f (v a.largest)) (largest f (remainders f (v a.sigma) (take k xs)))) =
    c.turns-sums.ensures.2.stands _ (positive_stands f positive) in
    let n : length c.turns-sums.new.work ≡ length a.work.now = search rules in
    let e = left v read each f (v a.sigma) a.work.now c.turns-sums.new.work k (omega arith) c.turns-sums.ensures.1 n in
    let N = remainders_numbers f (v a.sigma) (take k xs) (each_take (λ x. T (finite (remainder_of f (v a.sigma) x))) k xs c.requires.2) in
    let m = c.from_bits-most.ensures ∙ stands_with f positive (remainders f (v a.sigma) (take k xs)) N stands in
    let j = c.turns-sums.ensures.0 in
    let s : length xs ≡ length a.work.now = read_length v read each a.work.now in (
      c.extract.ensures.0 ∙ rw s (λ i. gathered f (v a.sigma) (j i) (e i)),
      c.extract.ensures.1 ∙ (λ i. largest_with f (m i) (remainders f (v a.sigma) (e i)))
          ∙ with_join f positive (remainders f (v a.sigma) (take k xs)) (remainders f (v a.sigma) (drop k xs)) N
          ∙ ap (largest_with f (v a.largest)) (all v read each f (v a.sigma) a.work.now c.turns-sums.new.work k (omega arith) c.turns-sums.ensures.1 n),
      stored v read each f (v a.sigma) a.work.now c.turns-sums.new.work k (omega arith) c.turns-sums.ensures.1 n _ c.extract.ensures.2,
    )
