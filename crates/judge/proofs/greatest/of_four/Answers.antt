-- `judge::greatest::of_four` meets its contract: the pattern kept is the greatest of the places passed in all four. Assumes nothing.
use mathlib.Core.Path.{◌∙◌}
use mathlib.Core.List.{map}
use Prim.Native.Nat.{◌<◌}
use native.Mathlib.Omega.{arith}
use lib.ListN.{length, take, get_or, length-map}
use lib.Seq.{take_all}
use Rattle.lists.proofs.Front.{take_next}
use Rattle.kinds.proofs.Areas.{read_at}
use Rattle.judge.specs.GreatestLaws.{greatest, four_next}
use Rattle.judge.proofs.greatest.of_four.Goals as goal

pub loop-i-init : goal.loop-i-init
unfolding greatest
loop-i-init g c = c.from_word-most.ensures

pub loop-i-preserved : goal.loop-i-preserved
loop-i-preserved g c =
    let i = c.loop-i.i in
    let W = g.F.Floating.width in
    let p = g.F.Floating.pattern in
    let a = map p c.args.a.now in
    let b = map p c.args.b.now in
    let u = map p c.args.c.now in
    let v = map p c.args.d.now in
    let x = read_at p c.args.a.now i c.index-a-i.result 0 c.index-a-i.is (omega arith) in
    let y = read_at p c.args.b.now i c.index-b-i.result 0 c.index-b-i.is (omega (arith, c.requires)) in
    let z = read_at p c.args.c.now i c.index-c-i.result 0 c.index-c-i.is (omega (arith, c.requires)) in
    let w = read_at p c.args.d.now i c.index-d-i.result 0 c.index-d-i.is (omega (arith, c.requires)) in
    let a-in : i < length a = omega (arith, length-map c.args.a.now p) in
    let b-in : i < length b = omega (arith, c.requires, length-map c.args.b.now p) in
    let u-in : i < length u = omega (arith, c.requires, length-map c.args.c.now p) in
    let v-in : i < length v = omega (arith, c.requires, length-map c.args.d.now p) in
    rw (
      c.larger-most.ensures,
      c.larger.ensures,
      c.larger-p.ensures,
      c.larger-q.ensures,
      c.unsigned.ensures,
      c.unsigned-in-loop-i.ensures,
      c.unsigned-in-loop-i-2.ensures,
      c.unsigned-in-loop-i-3.ensures,
      x,
      y,
      z,
      w,
      take_next 0 a i a-in,
      take_next 0 b i b-in,
      take_next 0 u i u-in,
      take_next 0 v i v-in,
    )
    (rw (← c.loop-i.invariant) at (four_next W (take i a) (take i b) (take i u) (take i v) (get_or a i 0) (get_or b i 0) (get_or u i 0) (get_or v i 0)))

pub returns : goal.returns
returns g c =
    let p = g.F.Floating.pattern in
    let each = g.met.F.Floating.each_pattern in
    let i = c.loop-i.i in
    c.loop-i.invariant
    ∙ rw (
      each c.args.a.now,
      each c.args.b.now,
      each c.args.c.now,
      each c.args.d.now,
      take_all i (map p c.args.a.now) (omega (arith, length-map c.args.a.now p)),
      take_all i (map p c.args.b.now) (omega (arith, c.requires, length-map c.args.b.now p)),
      take_all i (map p c.args.c.now) (omega (arith, c.requires, length-map c.args.c.now p)),
      take_all i (map p c.args.d.now) (omega (arith, c.requires, length-map c.args.d.now p)),
    )
