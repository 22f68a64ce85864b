-- `walk::accepted::held` meets its contract: each number that was passed is one that the width holds. Assumes nothing.
use Rattle.std.specs.Prelude.{T, get_or}
use Rattle.std.proofs.Common.{arith}
use Rattle.std.specs.Float.Ieee.{nan, fits}
use borrow.Author.Count.{below_more}
use Rattle.lists.specs.Each.{each_from}
use Rattle.kinds.proofs.Areas.{read_length, read_place}
use Rattle.walk.proofs.accepted.held.Goals as goal

pub loop-x-init : goal.loop-x-init
loop-x-init g c = λ i h. absurd (omega arith)

pub loop-x-preserved : goal.loop-x-preserved
loop-x-preserved g c =
    let v = g.F.Floating.value in
    let read = g.F.Floating.values in
    let x = read_place v read g.met.F.Floating.each_value c.args.work.now c.loop-x.x-index c.x-item.result nan c.x-item.is c.loop-x-test.true in
    below_more (λ i. T (fits g.F.Floating.width.format (get_or (read c.args.work.now) i nan))) c.loop-x.x-index c.loop-x.invariant (rw x at c.held.ensures)

pub returns : goal.returns
returns g c =
    let read = g.F.Floating.values in
    let n = read_length g.F.Floating.value read g.met.F.Floating.each_value c.args.work.now in
    each_from (λ x. T (fits g.F.Floating.width.format x)) (read c.args.work.now) nan (λ i h. c.loop-x.invariant i (omega (arith, n, h, c.loop-x-test.false)))
