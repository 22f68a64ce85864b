-- `extract::grouped::turn` meets its contract: the places passed hold their remainders, and their high parts are in sums of their own. Assumes nothing.
use mathlib.Core.Path.{◌≡◌, refl, sym, ◌∙◌}
use mathlib.Core.List.{List}
use Prim.Native.Nat.{ℕ, ◌+◌, ◌<◌}
use native.Mathlib.Omega.{arith}
use borrow.Author.Rules.{rules}
use lib.Dec.{T}
use lib.Ieee.{Format, Float, nan, add}
use lib.Ieee.Scale.{finite}
use lib.ListN.{length, take, get_or, set}
use lib.Seq.{take_all}
use Rattle.lists.specs.Each.{each_at}
use Rattle.lists.proofs.Front.{end_map, take_next}
use Rattle.ieee.specs.Units.{Number}
use Rattle.ieee.proofs.Finite.{finite_no_nan}
use Rattle.extract.specs.Extract.{high_part, remainder_of, remainders}
use Rattle.extract.specs.ExtractLaws.{remainders_next}
use Rattle.extract.specs.LargestLaws.{number_stands}
use Rattle.extract.specs.Grouped.{spread}
use Rattle.extract.specs.GroupedLaws.{spread_none, spread_next, raised_none}
use Rattle.extract.proofs.LargestWithLaws.{raised_max}
use Rattle.kinds.proofs.Areas.{read_place, read_length}
use Rattle.extract.proofs.AreaLaws.{read_set, area_read, area_stored, inside}
use Rattle.extract.proofs.grouped.turn.Goals as goal

-- one sum more
spread_stored : (f : Format) (sigma : Float) (ts xs taus : List Float) (k : ℕ) (y : Float)
    → y ≡ add f (get_or taus k nan) (high_part f sigma (get_or xs k nan))
    → taus ≡ spread f sigma ts (take k xs) → k < length ts → k < length xs → set taus k y ≡ spread f sigma ts (take (k + 1) xs)
spread_stored f sigma ts xs taus k y s e l n = rw (s, e) (spread_next f sigma ts xs k l n)

pub loop-k-init : goal.loop-k-init
unfolding remainders
loop-k-init g c =
    let f = g.F.Floating.width.format in (
      c.requires.0,
      omega arith,
      c.requires.1,
      refl,
      sym (spread_none f (g.F.Floating.value c.args.sigma) (g.F.Floating.values c.args.taus.now)),
      raised_none f,
    )

pub bits-requires : goal.bits-requires
bits-requires g c =
    let f = g.F.Floating.width.format in
    let v = g.F.Floating.value in
    let read = g.F.Floating.values in
    let each = g.met.F.Floating.each_value in
    let a = c.args in
    let I = c.loop-k.invariant in
    let h : c.loop-k.k < length a.part.now = omega (arith, c.requires.0) in
    let r = area_read v read each f (v a.sigma) a.part.now c.loop-k.k h c.loop-k.part (I.0 ∙ sym c.requires.0) I.3 c.index-part-k.result c.index-part-k.is in
    let left = each_at (λ x. T (finite (remainder_of f (v a.sigma) x))) (read a.part.now) c.loop-k.k nan c.requires.2
    (inside v read each a.part.now c.loop-k.k h) in
    let s : v c.sub-rest.result ≡ remainder_of f (v a.sigma) (v c.index-part-k.result) =
    search (rules, g.met.F.Floating.added, g.met.F.Floating.subtracted) in
    finite_no_nan _ (rw (s, r) left)

pub loop-k-preserved : goal.loop-k-preserved
loop-k-preserved g c =
    let f = g.F.Floating.width.format in
    let v = g.F.Floating.value in
    let read = g.F.Floating.values in
    let each = g.met.F.Floating.each_value in
    let a = c.args in
    let k = c.loop-k.k in
    let xs = read a.part.now in
    let I = c.loop-k.invariant in
    let h : k < length a.part.now = omega (arith, c.requires.0) in
    let j = inside v read each a.part.now k h in
    let n : length a.taus.now ≡ 8 = c.requires.1 in
    let r = area_read v read each f (v a.sigma) a.part.now k h c.loop-k.part (I.0 ∙ sym c.requires.0) I.3 c.index-part-k.result c.index-part-k.is in
    let x = v c.index-part-k.result in
    let q : v c.sub-q.result ≡ high_part f (v a.sigma) x =
    rw (g.met.F.Floating.subtracted _ _ _ c.sub-q.ensures, g.met.F.Floating.added _ _ _ c.add.ensures) in
    let s : v c.sub-rest.result ≡ remainder_of f (v a.sigma) x = rw (g.met.F.Floating.subtracted _ _ _ c.sub-rest.ensures, q) in
    let left = each_at (λ x. T (finite (remainder_of f (v a.sigma) x))) xs k nan c.requires.2 j in
    let rest : Number f (v c.sub-rest.result) = record { fit = c.bits.ensures.held; fini = rw (s, r) left } in
    let o = read_place v read each c.loop-k.taus k c.index-taus-k.result nan c.index-taus-k.is (omega (arith, I.2)) in
    let t : v c.add-in-loop-k.result ≡ add f (get_or (read c.loop-k.taus) k nan) (high_part f (v a.sigma) (get_or xs k nan)) =
    (g.met.F.Floating.added _ _ _ c.add-in-loop-k.ensures) ∙ rw (o, q, r) in
    let m : length (read a.taus.now) ≡ 8 = read_length v read each a.taus.now ∙ n in (
      search rules,
      omega arith,
      search rules,
      area_stored v read each f (v a.sigma) a.part.now k h c.loop-k.part
          (I.0 ∙ sym c.requires.0) I.3 c.index-part-k.result _ c.index-part-k.is s,
      read_set v read each c.loop-k.taus k c.add-in-loop-k.result
          ∙ spread_stored f (v a.sigma) (read a.taus.now) xs (read c.loop-k.taus) k (v c.add-in-loop-k.result) t I.4 (omega (arith, m)) j,
      rw (take_next nan xs k, remainders_next, ← r, ← s) (raised_max f I.5 (v c.sub-rest.result) (number_stands f rest) _ (search rules)),
    )

pub returns : goal.returns
unfolding remainders
returns g c =
    let f = g.F.Floating.width.format in
    let v = g.F.Floating.value in
    let read = g.F.Floating.values in
    let each = g.met.F.Floating.each_value in
    let xs = read c.args.part.now in
    let I = c.loop-k.invariant in
    let n = read_length v read each c.args.part.now in
    let e : take c.loop-k.k xs ≡ xs = take_all c.loop-k.k xs (omega (arith, c.requires.0, n)) in (
      I.4 ∙ rw e,
      I.3 ∙ end_map (remainder_of f (v c.args.sigma)) xs xs c.loop-k.k (omega (arith, c.requires.0, n)) (omega (arith, c.requires.0, n)),
      rw e at I.5,
    )
