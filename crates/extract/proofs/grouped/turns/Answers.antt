-- `extract::grouped::turns` meets its contract: eight numbers at a time, the places passed hold their remainders. Assumes nothing.
use mathlib.Core.Path.{◌≡◌, refl, sym, ap, ◌∙◌}
use mathlib.Core.List.{List, ◌++◌, map}
use Prim.Native.Nat.{ℕ, ◌+◌, ◌-◌, ◌*◌, ◌/◌, ◌<◌}
use native.Mathlib.Numerals.{add-one}
use native.Mathlib.Omega.{arith}
use borrow.Author.Rules.{rules}
use lib.Dec.{T}
use lib.Ieee.{Format, Float}
use lib.Ieee.Scale.{finite}
use lib.ListN.{length, take, drop, length-drop}
use lib.Seq.{length-take-le, take-add}
use Rattle.lists.specs.Each.{each_take, each_drop}
use Rattle.ieee.proofs.Finite.{finite_no_nan}
use Rattle.extract.specs.Extract.{remainder_of, remainders}
use Rattle.extract.specs.ExtractLaws.{remainders_join}
use Rattle.kinds.proofs.Areas.{read_length}
use Rattle.extract.proofs.AreaLaws.{read_join, read_take, read_drop}
use Rattle.extract.proofs.TurnLaws.{part_read, part_stored}
use Rattle.extract.specs.Grouped.{spreads}
use Rattle.extract.specs.GroupedLaws.{raised_none, raised_join}
use Rattle.extract.proofs.grouped.turns.Goals as goal

pub bits-most-requires : goal.bits-most-requires
bits-most-requires g c = finite_no_nan (g.F.Floating.value c.args.largest) c.requires.1

pub loop-i-init : goal.loop-i-init
unfolding remainders spreads
loop-i-init g c =
    let f = g.F.Floating.width.format in
    (refl, omega arith, refl, rw (g.met.F.Floating.each_value _, c.zero-taus.ensures), refl, rw c.bits-most.ensures.bits (raised_none f))

-- the part that is taken: eight numbers from the place 8 i on, as they were
module _ {A : Type 0} (v : A → Float) (read : List A → List Float) (each : (xs : List A) → read xs ≡ map v xs) (f : Format) (sigma : Float) (l area : List A)
    (i : ℕ) (h : i < length l / 8) (e : read area ≡ remainders f sigma (take (8 * i) (read l)) ++ drop (8 * i) (read l)) where
  eights : i < length (read l) / 8
  eights = rw (read_length v read each l) h

  part : read (take (8 * i + 8 - 8 * i) (drop (8 * i) area)) ≡ take 8 (drop (8 * i) (read l))
  part =
      let n : 8 * i + 8 - 8 * i ≡ 8 = omega arith in
      rw (n, read_take v read each 8 (drop (8 * i) area), read_drop v read each (8 * i) area) (part_read f sigma (read l) (8 * i) 8 (omega (arith, eights)) e)

  part_length : length (take 8 (drop (8 * i) (read l))) ≡ 8
  part_length = length-take-le 8 (drop (8 * i) (read l)) (rw (length-drop (8 * i) (read l)) (omega (arith, eights)))

  stored : (ys : List A) → read ys ≡ remainders f sigma (read (take (8 * i + 8 - 8 * i) (drop (8 * i) area)))
      → read (take (8 * i) area ++ (ys ++ drop (8 * i + 8 - 8 * i) (drop (8 * i) area)))
      ≡ remainders f sigma (take (8 * (i + 1)) (read l)) ++ drop (8 * (i + 1)) (read l)
  stored ys y =
      let n : 8 * i + 8 - 8 * i ≡ 8 = omega arith in
      let m : 8 * (i + 1) ≡ 8 * i + 8 = omega arith in
      read_join v read each (take (8 * i) area) (ys ++ drop (8 * i + 8 - 8 * i) (drop (8 * i) area))
      ∙ rw (
        read_join v read each ys,
        y,
        part,
        n,
        m,
        read_take v read each (8 * i) area,
        read_drop v read each 8 (drop (8 * i) area),
        read_drop v read each (8 * i) area,
      ) (part_stored f sigma (read l) (8 * i) 8 (omega (arith, eights)) e)

  more : remainders f sigma (take (8 * (i + 1)) (read l))
      ≡ remainders f sigma (take (8 * i) (read l)) ++ remainders f sigma (take 8 (drop (8 * i) (read l)))
  more =
      let m : 8 * (i + 1) ≡ 8 * i + 8 = omega arith in
      rw (m, take-add (8 * i) 8 (read l)) (remainders_join f sigma (take (8 * i) (read l)) (take 8 (drop (8 * i) (read l))))

pub turn-most-requires : goal.turn-most-requires
turn-most-requires g c =
    let f = g.F.Floating.width.format in
    let v = g.F.Floating.value in
    let read = g.F.Floating.values in
    let each = g.met.F.Floating.each_value in
    let I = c.loop-i.invariant in
    let a = c.args in
    let i = c.loop-i.i in
    let h : i < length a.work.now / 8 = omega arith in
    let P : Float → Type 0 = λ x. T (finite (remainder_of f (v a.sigma) x)) in
    let p = part v read each f (v a.sigma) a.work.now c.loop-i.work i h I.4 in
    let n = part_length v read each f (v a.sigma) a.work.now c.loop-i.work i h I.4 in (
      sym (read_length v read each (take (8 * i + 8 - 8 * i) (drop (8 * i) c.loop-i.work))) ∙ ap length p ∙ n,
      I.2,
      rw p (each_take P 8 (drop (8 * i) (read a.work.now)) (each_drop P (8 * i) (read a.work.now) c.requires.0)),
    )

pub loop-i-preserved : goal.loop-i-preserved
unfolding spreads
loop-i-preserved g c =
    let f = g.F.Floating.width.format in
    let v = g.F.Floating.value in
    let read = g.F.Floating.values in
    let each = g.met.F.Floating.each_value in
    let I = c.loop-i.invariant in
    let a = c.args in
    let i = c.loop-i.i in
    let xs = read a.work.now in
    let h : i < length a.work.now / 8 = omega arith in
    let k = eights v read each f (v a.sigma) a.work.now c.loop-i.work i h I.4 in
    let p = part v read each f (v a.sigma) a.work.now c.loop-i.work i h I.4 in
    let S = stored v read each f (v a.sigma) a.work.now c.loop-i.work i h I.4 _ c.turn-most.ensures.1 in (
      search rules,
      omega arith,
      search rules,
      c.turn-most.ensures.0 ∙ rw (p, I.3, add-one),
      S,
      rw (more v read each f (v a.sigma) a.work.now c.loop-i.work i h I.4) (raised_join f I.5 (rw p at c.turn-most.ensures.2)),
    )

pub returns : goal.returns
returns g c =
    let I = c.loop-i.invariant in
    let e : c.loop-i.i ≡ length c.args.work.now / 8 = omega arith in
    (c.join.ensures ∙ rw (I.3, e), rw e at I.4, rw e at I.5, c.bits-most.ensures.held)
