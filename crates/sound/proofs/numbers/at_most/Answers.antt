-- `sound::numbers::at_most` meets its contract: what lies between a limit and its negative is finite and no larger. Assumes nothing.
use Rattle.std.specs.Prelude.{◌≡◌, Float}
use Rattle.std.proofs.Common.{◌∙◌, ap}
use Rattle.std.specs.Float.Ieee.{le, neg}
use Rattle.sound.specs.Sound.{at_most}
use Rattle.sound.proofs.WithinLaws.{within}
use Rattle.sound.proofs.numbers.at_most.Goals as goal

pub returns : goal.returns
unfolding at_most
returns g c =
    let f = g.F.Floating.width.format in
    let x = g.F.Floating.value c.args.x in
    let b = g.F.Floating.value c.args.limit in
    let low : c.at_most.result ≡ le (neg b) x =
    c.at_most.ensures.test ∙ ap (λ (n : Float). le n x) (g.met.F.Floating.negated c.args.limit c.neg.result c.neg.ensures) in
    let held = c.at_most-2.ensures.held in
    rw (low, c.at_most-2.ensures.test) (within f x held.0 (record { fit = held.1; fini = c.requires.0 }) c.requires.1)
