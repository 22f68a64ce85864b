-- `sound::places::within` meets its contract: the numbers looked at are at most the limit exactly where each of them was. Assumes nothing.
use Rattle.ieee.specs.Units.{magnitude}
use Rattle.lists.specs.Every.{Looked}
use Rattle.sound.specs.Sound.{at_most}
use Rattle.sound.proofs.places.within.Given as goal

abbrev pub invariant-loop-x : goal.invariant-loop-x
invariant-loop-x g l =
    let W = g.F.Floating.width in
    Looked (at_most W (magnitude W.format (g.F.Floating.value l.fn.limit))) (g.F.Floating.values l.work) l.good l.x-index
