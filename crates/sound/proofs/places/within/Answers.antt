-- `sound::places::within` meets its contract: the numbers looked at are at most the limit exactly where each of them was. Assumes nothing.
use Rattle.std.proofs.Common.{ap, ◌∙◌}
use Rattle.std.specs.Float.Ieee.{nan}
use Rattle.ieee.specs.Units.{magnitude}
use Rattle.lists.specs.Every.{looked_none, looked_next, looked_all}
use Rattle.kinds.proofs.Areas.{read_length, read_place}
use Rattle.sound.specs.Sound.{at_most}
use Rattle.sound.proofs.places.within.Goals as goal

pub loop-x-init : goal.loop-x-init
loop-x-init g c = looked_none

pub loop-x-preserved : goal.loop-x-preserved
loop-x-preserved g c =
    let W = g.F.Floating.width in
    let v = g.F.Floating.value in
    let read = g.F.Floating.values in
    let each = g.met.F.Floating.each_value in
    let n = read_length v read each c.args.work.now in
    let x = read_place v read each c.args.work.now c.loop-x.x-index c.x-item.result nan c.x-item.is c.loop-x-test.true in
    looked_next c.loop-x.invariant nan (rw n c.loop-x-test.true) _ (c.at_most-good.ensures ∙ ap (at_most W (magnitude W.format (v c.args.limit))) x)

pub returns : goal.returns
returns g c =
    let n = read_length g.F.Floating.value g.F.Floating.values g.met.F.Floating.each_value c.args.work.now in
    looked_all c.loop-x.invariant (rw n c.loop-x-test.false)
