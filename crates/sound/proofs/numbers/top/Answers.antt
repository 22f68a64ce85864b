-- `sound::numbers::top` meets its contract: the pattern is no NaN's and has no sign. Assumes nothing.
use Rattle.kinds.proofs.KnownLaws.{figures}
use Rattle.sound.proofs.LimitLaws.{limit_at}
use Rattle.sound.proofs.numbers.top.Goals as goal

pub from_bits-requires : goal.from_bits-requires
from_bits-requires g c =
    let K = figures g.met.F.Floating.known in
    rw (c.from_word.ensures, c.MAGNITUDE.ensures, K.magnitude) (limit_at g.F.Floating.width.format g.F.Floating.width.magnitude K.proper).no_nan

pub ceiling-requires : goal.ceiling-requires
ceiling-requires g c =
    let K = figures g.met.F.Floating.known in
    let L = limit_at g.F.Floating.width.format g.F.Floating.width.magnitude K.proper in
    rw (c.from_bits.ensures, c.from_word.ensures, c.MAGNITUDE.ensures, K.magnitude) (L.number.fini, L.positive)

pub returns : goal.returns
returns g c =
    let K = figures g.met.F.Floating.known in
    rw (c.ceiling.ensures, c.from_bits.ensures, c.from_word.ensures, c.MAGNITUDE.ensures, K.magnitude)
