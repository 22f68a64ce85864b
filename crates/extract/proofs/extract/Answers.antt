-- `extract::extract` meets its contract: the places passed hold their remainders, their high parts are gathered, and the greatest pattern stands for the
-- largest magnitude among those remainders and the one that was handed in. Assumes nothing.
use mathlib.Core.Path.{◌≡◌, refl, ap, ◌∙◌}
use mathlib.Core.List.{List, []}
use Prim.Native.Nat.{ℕ, ◌+◌, ◌<◌, max}
use native.Mathlib.Omega.{arith}
use borrow.Author.Rules.{rules}
use lib.Dec.{T}
use lib.Ieee.{Format, Float, nan, add, sub}
use lib.Ieee.Scale.{finite}
use lib.ListN.{length, take, get_or}
use lib.Seq.{take_all}
use Rattle.lists.specs.Each.{each_at}
use Rattle.lists.proofs.Front.{end_map, take_next}
use Rattle.ieee.specs.Units.{Number, magnitude}
use Rattle.ieee.proofs.Finite.{finite_no_nan}
use Rattle.ieee.proofs.Pattern.{pattern_no_nan}
use Rattle.extract.specs.Extract.{high_part, remainder_of, remainders, gathered, largest}
use Rattle.extract.specs.ExtractLaws.{remainders_next, gathered_next, largest_none, largest_next}
use Rattle.extract.specs.LargestLaws.{number_stands}
use Rattle.extract.proofs.LargestWithLaws.{positive_here, positive_stands, remainders_numbers, stands_with, stands_max}
use Rattle.kinds.proofs.Areas.{read_length}
use Rattle.extract.proofs.AreaLaws.{area_read, area_stored, inside}
use Rattle.extract.proofs.extract.Goals as goal

-- one turn: what the sum and the largest magnitude are
module _ (f : Format) (sigma tau : Float) (l : List Float) (i : ℕ) (h : i < length l) where
  summed : (t : Float) → t ≡ gathered f sigma tau (take i l) → add f t (high_part f sigma (get_or l i nan)) ≡ gathered f sigma tau (take (i + 1) l)
  summed t s = rw (s, take_next nan l i, gathered_next)

  most_next : (m : ℕ) → max m (largest f (remainders f sigma (take (i + 1) l)))
      ≡ max (max m (largest f (remainders f sigma (take i l)))) (magnitude f (remainder_of f sigma (get_or l i nan)))
  most_next m = rw (take_next nan l i, remainders_next, largest_next) (omega arith)

pub bits-most-requires : goal.bits-most-requires
bits-most-requires g c = finite_no_nan (g.F.Floating.value c.args.largest) c.requires.0

pub loop-x-init : goal.loop-x-init
unfolding remainders gathered
loop-x-init g c =
    let f = g.F.Floating.width.format in
    let m = magnitude f (g.F.Floating.value c.args.largest) in
    let e : max m (largest f []) ≡ m = rw (largest_none f) (omega arith) in
    let positive = positive_here f (g.F.Floating.value c.args.largest) c.bits-most.ensures.held c.requires.0 c.requires.1 in
    (refl, refl, refl, rw (e, c.bits-most.ensures.bits) (positive_stands f positive))

pub bits-requires : goal.bits-requires
bits-requires g c =
    let f = g.F.Floating.width.format in
    let v = g.F.Floating.value in
    let read = g.F.Floating.values in
    let each = g.met.F.Floating.each_value in
    let a = c.args in
    let i = c.loop-x.x-index in
    let I = c.loop-x.invariant in
    let h : i < length a.block.now = omega arith in
    let x = get_or c.loop-x.block i c.x-item.result in
    let is : x ≡ get_or c.loop-x.block i x = ap (get_or c.loop-x.block i) c.x-item.is in
    let r = area_read v read each f (v a.sigma) a.block.now i h c.loop-x.block I.0 I.1 x is in
    let q : v c.sub-q.result ≡ high_part f (v a.sigma) (v x) =
    g.met.F.Floating.subtracted _ _ _ c.sub-q.ensures ∙ ap (λ (y : Float). sub f y (v a.sigma)) (search g.met.F.Floating.added) in
    let s : v c.sub-rest.result ≡ remainder_of f (v a.sigma) (v x) = g.met.F.Floating.subtracted _ _ _ c.sub-rest.ensures ∙ ap (sub f (v x)) q in
    let left = each_at (λ x. T (finite (remainder_of f (v a.sigma) x))) (read a.block.now) i nan c.requires.2 (inside v read each a.block.now i h) in
    finite_no_nan _ (rw (s, r) left)

pub loop-x-preserved : goal.loop-x-preserved
loop-x-preserved g c =
    let f = g.F.Floating.width.format in
    let v = g.F.Floating.value in
    let read = g.F.Floating.values in
    let each = g.met.F.Floating.each_value in
    let a = c.args in
    let i = c.loop-x.x-index in
    let xs = read a.block.now in
    let I = c.loop-x.invariant in
    let h : i < length a.block.now = omega arith in
    let k = inside v read each a.block.now i h in
    let x = get_or c.loop-x.block i c.x-item.result in
    let is : x ≡ get_or c.loop-x.block i x = ap (get_or c.loop-x.block i) c.x-item.is in
    let r = area_read v read each f (v a.sigma) a.block.now i h c.loop-x.block I.0 I.1 x is in
    let q : v c.sub-q.result ≡ high_part f (v a.sigma) (v x) =
    g.met.F.Floating.subtracted _ _ _ c.sub-q.ensures ∙ ap (λ (y : Float). sub f y (v a.sigma)) (search g.met.F.Floating.added) in
    let s : v c.sub-rest.result ≡ remainder_of f (v a.sigma) (v x) = g.met.F.Floating.subtracted _ _ _ c.sub-rest.ensures ∙ ap (sub f (v x)) q in
    let t : v c.add-sum.result ≡ add f (v c.loop-x.sum) (v c.sub-q.result) = g.met.F.Floating.added _ _ _ c.add-sum.ensures in
    let left = each_at (λ x. T (finite (remainder_of f (v a.sigma) x))) xs i nan c.requires.2 k in
    let rest : Number f (v c.sub-rest.result) = record { fit = c.bits.ensures.held; fini = rw (s, r) left } in (
      search rules,
      area_stored v read each f (v a.sigma) a.block.now i h c.loop-x.block I.0 I.1 x _ is (search rules),
      t ∙ rw (q, r) (summed f (v a.sigma) (v a.tau) xs i k (v c.loop-x.sum) I.2),
      rw (most_next f (v a.sigma) (v a.tau) xs i k (magnitude f (v a.largest)), ← r, ← s) (stands_max f I.3 (number_stands f rest) _ (search rules)),
    )

pub from_bits-requires : goal.from_bits-requires
from_bits-requires g c = pattern_no_nan g.F.Floating.width.format c.loop-x.invariant.3.below

pub returns : goal.returns
unfolding remainders
returns g c =
    let f = g.F.Floating.width.format in
    let v = g.F.Floating.value in
    let read = g.F.Floating.values in
    let each = g.met.F.Floating.each_value in
    let a = c.args in
    let i = c.loop-x.x-index in
    let xs = read a.block.now in
    let positive = positive_here f (v a.largest) c.bits-most.ensures.held c.requires.0 c.requires.1 in
    let n = read_length v read each a.block.now in
    let e : take i xs ≡ xs = take_all i xs (omega (arith, n)) in
    let left = remainders f (v a.sigma) xs in (
      c.loop-x.invariant.2 ∙ rw e,
      c.from_bits.ensures ∙ stands_with f positive left (remainders_numbers f (v a.sigma) xs c.requires.2) (rw e at c.loop-x.invariant.3),
      c.loop-x.invariant.1 ∙ end_map (remainder_of f (v a.sigma)) xs xs i (omega (arith, n)) (omega (arith, n)),
    )
