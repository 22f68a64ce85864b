-- `weights::total` meets its contract: the places passed and those to come add up to the total. Assumes nothing.
use native.Mathlib.Omega.{arith}
use lib.ListN.{length-map}
use Rattle.lists.proofs.Front.{map_at}
use Rattle.kinds.specs.Limits.{doubles}
use Rattle.weights.specs.Weights.{weight_of, weights_of}
use Rattle.weights.proofs.WeightLaws.{good_below}
use Rattle.weights.proofs.FieldLaws.{fine_doubles}
use Rattle.weights.proofs.LoopLaws.{total_next, total_end}
use Rattle.weights.proofs.total.Goals as goal

pub grains_of-sum-requires : goal.grains_of-sum-requires
grains_of-sum-requires c = good_below doubles fine_doubles _ (c.requires.1.each c.loop-p.p-index c.loop-p-test.true)

pub loop-p-preserved : goal.loop-p-preserved
loop-p-preserved c =
    let ps = c.args.list.now in
    let h = c.loop-p-test.true in
    let n = total_next (weights_of doubles ps) c.loop-p.p-index (rw (length-map ps (weight_of doubles)) h) in
    let e = map_at (weight_of doubles) ps c.loop-p.p-index 0 0 h in
    (omega (arith, c.grains_of-sum.ensures.1), omega (arith, c.loop-p.invariant.1, n, e, c.grains_of-sum.ensures.0))

pub returns : goal.returns
returns c =
    let ps = c.args.list.now in
    omega (arith, c.loop-p.invariant.1, total_end (weights_of doubles ps) c.loop-p.p-index (rw (length-map ps (weight_of doubles)) c.loop-p-test.false))
