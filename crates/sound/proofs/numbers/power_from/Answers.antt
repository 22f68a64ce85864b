-- `sound::numbers::power_from` meets its contract: a pattern is a power of two's exactly where its units are one. Assumes nothing.
use Rattle.std.specs.Prelude.{◌≡◌, false, ◌≤◌, ◌<◌}
use Rattle.std.proofs.Common.{◌∙◌, arith, le-leb}
use Rattle.std.proofs.lemmas.Bool.{lt-leb}
use Rattle.std.specs.Float.Ieee.{top, to_bits}
use Rattle.ieee.specs.Units.{Number, negative}
use Rattle.ieee.proofs.Finite.{finite_no_nan}
use Rattle.ieee.proofs.PatternBounds.{bits_units}
use Rattle.exponent.proofs.PowerLaws.{power_number}
use Rattle.kinds.proofs.KnownLaws.{figures}
use Rattle.sound.specs.SigmaLaws.{power_from, negative_power}
use Rattle.sound.proofs.numbers.power_from.Goals as goal

pub bits-requires : goal.bits-requires
bits-requires g c = finite_no_nan (g.F.Floating.value c.args.x) c.requires.0

pub returns-then-SIGN-p : goal.returns-then-SIGN-p
returns-then-SIGN-p g c =
    let f = g.F.Floating.width.format in
    let x = g.F.Floating.value c.args.x in
    let number : Number f x = record { fit = c.bits.ensures.held; fini = c.requires.0 } in
    let h : top f ≤ to_bits f x =
    omega (arith, (figures g.met.F.Floating.known).sign, c.SIGN.ensures, c.if-SIGN-p.true, c.word-p.ensures.word, c.bits.ensures.bits) in
    negative_power f x c.args.m ((bits_units number).0 ∙ le-leb (top f) (to_bits f x) h)

pub ceiling-k-requires : goal.ceiling-k-requires
ceiling-k-requires g c =
    let f = g.F.Floating.width.format in
    let x = g.F.Floating.value c.args.x in
    let number : Number f x = record { fit = c.bits.ensures.held; fini = c.requires.0 } in
    let h : to_bits f x < top f =
    omega (arith, (figures g.met.F.Floating.known).sign, c.SIGN.ensures, c.if-SIGN-p.false, c.word-p.ensures.word, c.bits.ensures.bits) in
    (c.requires.0, (bits_units number).0 ∙ lt-leb (top f) (to_bits f x) h)

pub bits-requires-2 : goal.bits-requires-2
bits-requires-2 g c = rw (c.power-power.ensures, c.ceiling-k.ensures) (finite_no_nan _ (power_number g.F.Floating.width.format c.requires.1).fini)

pub returns : goal.returns
returns g c =
    let f = g.F.Floating.width.format in
    let x = g.F.Floating.value c.args.x in
    let number : Number f x = record { fit = c.bits.ensures.held; fini = c.requires.0 } in
    let h : to_bits f x < top f =
    omega (arith, (figures g.met.F.Floating.known).sign, c.SIGN.ensures, c.if-SIGN-p.false, c.word-p.ensures.word, c.bits.ensures.bits) in
    let positive : negative x ≡ false = (bits_units number).0 ∙ lt-leb (top f) (to_bits f x) h in
    rw (c.word.ensures.word, c.word-p.ensures.word, c.bits.ensures.bits, c.bits-2.ensures.bits, c.power-power.ensures, c.ceiling-k.ensures)
    (power_from number positive c.requires.1 c.args.m)
