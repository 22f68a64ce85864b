-- `extract::first::from_list` meets its contract: the places passed hold the remainders of the list's numbers, their high parts are gathered, their remainders
-- are added up in rising order, and the greatest pattern stands for the largest magnitude among those. Assumes nothing.
use mathlib.Core.Path.{◌≡◌, refl, sym, ap, subst, ◌∙◌}
use mathlib.Core.Bool.{not}
use mathlib.Core.List.{List, [], ◌∷◌, ◌++◌, map}
use Prim.Native.Nat.{ℕ, ◌+◌, ◌<◌, max}
use native.Mathlib.Omega.{arith}
use borrow.Author.Rules.{rules}
use lib.Dec.{T}
use lib.Ieee.{Format, Float, nan, of_bits, add, nan_bits}
use lib.Ieee.Scale.{finite}
use lib.ListN.{length, take, drop, get_or, set, length-map}
use lib.Seq.{take_all}
use Rattle.kinds.proofs.Areas.{read_place, read_length}
use Rattle.extract.proofs.AreaLaws.{read_set}
use Rattle.lists.specs.Each.{each_at}
use Rattle.lists.proofs.Front.{store_map, end_map, take_next, map_at}
use Rattle.ieee.specs.Units.{Number, magnitude}
use Rattle.ieee.proofs.Finite.{finite_no_nan}
use Rattle.ieee.proofs.Pattern.{pattern_no_nan}
use Rattle.extract.specs.Extract.{high_part, remainder_of, remainders, gathered, last_sum, largest}
use Rattle.extract.specs.ExtractLaws.{remainders_next, gathered_next, sum_next, largest_none, largest_next}
use Rattle.extract.specs.LargestLaws.{number_stands}
use Rattle.extract.proofs.LargestWithLaws.{positive_here, positive_stands, remainders_numbers, stands_with, stands_max}
use Rattle.extract.proofs.first.from_list.Goals as goal

-- one turn: what is read at i, what the area is after the store, and what the sums and the largest magnitude are
module _ (f : Format) (sigma tau : Float) (ps : List ℕ) (i : ℕ) (h : i < length ps) where
  inside : i < length (map (of_bits f) ps)
  inside = rw (length-map ps (of_bits f)) h

  read : get_or (map (of_bits f) ps) i nan ≡ of_bits f (get_or ps i 0)
  read = map_at (of_bits f) ps i 0 nan h

  stored : (work l : List Float) (y : Float) → work ≡ remainders f sigma (take i (map (of_bits f) ps)) ++ drop i l → i < length l
      → y ≡ remainder_of f sigma (of_bits f (get_or ps i 0)) → set work i y ≡ remainders f sigma (take (i + 1) (map (of_bits f) ps)) ++ drop (i + 1) l
  unfolding remainders
  stored work l y e k s = rw (s, e, ← read) (store_map (remainder_of f sigma) (map (of_bits f) ps) l i nan nan inside k)

  next : take (i + 1) (map (of_bits f) ps) ≡ take i (map (of_bits f) ps) ++ (of_bits f (get_or ps i 0) ∷ [])
  next = take_next nan (map (of_bits f) ps) i inside ∙ rw read

  summed : (t : Float) → t ≡ gathered f sigma tau (take i (map (of_bits f) ps))
      → add f t (high_part f sigma (of_bits f (get_or ps i 0))) ≡ gathered f sigma tau (take (i + 1) (map (of_bits f) ps))
  summed t e = rw (e, next, gathered_next)

  added : (t : Float) → t ≡ last_sum f (remainders f sigma (take i (map (of_bits f) ps)))
      → add f t (remainder_of f sigma (of_bits f (get_or ps i 0)))
      ≡ last_sum f (remainders f sigma (take (i + 1) (map (of_bits f) ps)))
  added t e = rw (e, next, remainders_next, sum_next)

  most_next : (m : ℕ) → max m (largest f (remainders f sigma (take (i + 1) (map (of_bits f) ps))))
      ≡ max (max m (largest f (remainders f sigma (take i (map (of_bits f) ps)))))
      (magnitude f (remainder_of f sigma (of_bits f (get_or ps i 0))))
  most_next m = rw (next, remainders_next, largest_next) (omega arith)

pub bits-most-requires : goal.bits-most-requires
bits-most-requires g c = finite_no_nan (g.F.Floating.value c.args.largest) c.requires.1

pub loop-i-init : goal.loop-i-init
unfolding remainders gathered last_sum
loop-i-init g c =
    let f = g.F.Floating.width.format in
    let m = magnitude f (g.F.Floating.value c.args.largest) in
    let positive = positive_here f (g.F.Floating.value c.args.largest) c.bits-most.ensures.held c.requires.1 c.requires.2 in
    let e : max m (largest f []) ≡ m = rw (largest_none f) (omega arith) in
    (refl, refl, refl, c.zero-sum.ensures, rw (e, c.bits-most.ensures.bits) (positive_stands f positive))

pub from_bits-x-requires : goal.from_bits-x-requires
from_bits-x-requires g c =
    let n = g.F.Floating.pattern in
    let told = g.F.Floating.patterns in
    let each = g.met.F.Floating.each_pattern in
    let ps = told c.args.list.now in
    let h : c.loop-i.i < length c.args.list.now = omega arith in
    subst (λ m. T (not (nan_bits g.F.Floating.width.format m))) (sym (read_place n told each c.args.list.now c.loop-i.i _ 0 (search rules) h))
    (each_at (λ p. T (not (nan_bits g.F.Floating.width.format p))) ps c.loop-i.i 0 c.requires.3 (rw (read_length n told each c.args.list.now) h))

pub bits-requires : goal.bits-requires
bits-requires g c =
    let f = g.F.Floating.width.format in
    let v = g.F.Floating.value in
    let area = g.F.Floating.values in
    let each = g.met.F.Floating.each_value in
    let a = c.args in
    let i = c.loop-i.i in
    let h : i < length a.list.now = omega arith in
    let ps = g.F.Floating.patterns a.list.now in
    let k : i < length ps = rw (read_length g.F.Floating.pattern g.F.Floating.patterns g.met.F.Floating.each_pattern a.list.now) h in
    let x : v c.from_bits-x.result ≡ get_or (map (of_bits f) ps) i nan =
    c.from_bits-x.ensures
    ∙ ap (of_bits f) (read_place g.F.Floating.pattern g.F.Floating.patterns g.met.F.Floating.each_pattern a.list.now i _ 0 (search rules) h)
    ∙ sym (read f (v a.sigma) (v a.tau) ps i k) in
    let left = each_at (λ x. T (finite (remainder_of f (v a.sigma) x))) (map (of_bits f) ps) i nan c.requires.4 (inside f (v a.sigma) (v a.tau) ps i k) in
    let q = g.met.F.Floating.subtracted _ _ _ c.sub-q.ensures in
    let s : v c.sub-rest.result ≡ remainder_of f (v a.sigma) (v c.from_bits-x.result) =
    rw (g.met.F.Floating.subtracted _ _ _ c.sub-rest.ensures, q, g.met.F.Floating.added _ _ _ c.add.ensures) in
    finite_no_nan _ (rw (s, x) left)

pub loop-i-preserved : goal.loop-i-preserved
loop-i-preserved g c =
    let f = g.F.Floating.width.format in
    let v = g.F.Floating.value in
    let area = g.F.Floating.values in
    let each = g.met.F.Floating.each_value in
    let a = c.args in
    let i = c.loop-i.i in
    let I = c.loop-i.invariant in
    let h : i < length a.list.now = omega arith in
    let ps = g.F.Floating.patterns a.list.now in
    let k : i < length ps = rw (read_length g.F.Floating.pattern g.F.Floating.patterns g.met.F.Floating.each_pattern a.list.now) h in
    let w : i < length (area a.work.now) = rw (read_length v area each a.work.now) (omega (arith, c.requires.0)) in
    let x : v c.from_bits-x.result ≡ of_bits f (get_or ps i 0) =
    c.from_bits-x.ensures
    ∙ ap (of_bits f) (read_place g.F.Floating.pattern g.F.Floating.patterns g.met.F.Floating.each_pattern a.list.now i _ 0 (search rules) h) in
    let y = of_bits f (get_or ps i 0) in
    let q : v c.sub-q.result ≡ high_part f (v a.sigma) y =
    rw (g.met.F.Floating.subtracted _ _ _ c.sub-q.ensures, g.met.F.Floating.added _ _ _ c.add.ensures, x) in
    let s : v c.sub-rest.result ≡ remainder_of f (v a.sigma) y = rw (g.met.F.Floating.subtracted _ _ _ c.sub-rest.ensures, q, x) in
    let t : v c.add-gathered.result ≡ add f (v c.loop-i.gathered) (v c.sub-q.result) = g.met.F.Floating.added _ _ _ c.add-gathered.ensures in
    let u : v c.add-sum.result ≡ add f (v c.loop-i.sum) (v c.sub-rest.result) = g.met.F.Floating.added _ _ _ c.add-sum.ensures in
    let left = each_at (λ x. T (finite (remainder_of f (v a.sigma) x))) (map (of_bits f) ps) i nan c.requires.4 (inside f (v a.sigma) (v a.tau) ps i k) in
    let rest : Number f (v c.sub-rest.result) = record { fit = c.bits.ensures.held; fini = rw s (rw (read f (v a.sigma) (v a.tau) ps i k) at left) } in (
      search rules,
      read_set v area each c.loop-i.work i _ ∙ stored f (v a.sigma) (v a.tau) ps i k (area c.loop-i.work) (area a.work.now) _ I.1 w s,
      t ∙ rw q (summed f (v a.sigma) (v a.tau) ps i k (v c.loop-i.gathered) I.2),
      u ∙ rw s (added f (v a.sigma) (v a.tau) ps i k (v c.loop-i.sum) I.3),
      rw (most_next f (v a.sigma) (v a.tau) ps i k (magnitude f (v a.largest)), ← s) (stands_max f I.4 (number_stands f rest) _ (search rules)),
    )

pub from_bits-requires : goal.from_bits-requires
from_bits-requires g c = pattern_no_nan g.F.Floating.width.format c.loop-i.invariant.4.below

pub returns : goal.returns
unfolding remainders
returns g c =
    let f = g.F.Floating.width.format in
    let v = g.F.Floating.value in
    let area = g.F.Floating.values in
    let each = g.met.F.Floating.each_value in
    let a = c.args in
    let I = c.loop-i.invariant in
    let positive = positive_here f (v a.largest) c.bits-most.ensures.held c.requires.1 c.requires.2 in
    let ps = g.F.Floating.patterns a.list.now in
    let xs = map (of_bits f) ps in
    let n = length-map ps (of_bits f) ∙ read_length g.F.Floating.pattern g.F.Floating.patterns g.met.F.Floating.each_pattern a.list.now in
    let w = read_length v area each a.work.now in
    let e : take c.loop-i.i xs ≡ xs = take_all c.loop-i.i xs (omega (arith, n)) in
    let left = remainders f (v a.sigma) xs in (
      I.2 ∙ rw e,
      c.from_bits.ensures ∙ stands_with f positive left (remainders_numbers f (v a.sigma) xs c.requires.4) (rw e at I.4),
      I.3 ∙ rw e,
      I.1 ∙ end_map (remainder_of f (v a.sigma)) xs (area a.work.now) c.loop-i.i (omega (arith, n)) (omega (arith, w, c.requires.0)),
    )
