-- `rounds::close::enough` meets its contract: sigma's pattern is at most the least normal number's exactly where sigma is at most that number, and above it
-- the bound of rule W3 is a power of two. Assumes nothing.
use Rattle.std.proofs.Common.{arith, sym, ◌∙◌, le-leb}
use Rattle.std.proofs.lemmas.Bool.{lt-leb}
use Rattle.ieee.specs.Units.{Number}
use Rattle.ieee.proofs.Finite.{finite_no_nan}
use Rattle.kinds.proofs.Comparing.{at_most_is}
use Rattle.rounds.proofs.PatternLaws.{power_above}
use Rattle.rounds.proofs.WidthLaws.{least_word}
use Rattle.rounds.proofs.close.enough.Goals as goal

pub bits-requires : goal.bits-requires
bits-requires g c = finite_no_nan (g.F.Floating.value c.args.sigma) c.requires.1.fini

pub returns-then-least : goal.returns-then-least
returns-then-least g c =
    let f = g.F.Floating.width.format in
    let v = g.F.Floating.value in
    let X : Number f (v c.args.sigma) = record { fit = c.bits.ensures.held; fini = c.requires.1.fini } in
    let test = least_word g.met.F.Floating.known X c.requires.1.positive c.DIGITS.ensures (c.word.ensures.word ∙ c.bits.ensures.bits) in
    let least = le-leb _ _ c.if-least.true in
    rw (least, sym test ∙ least)

pub scaled-requires : goal.scaled-requires
scaled-requires g c =
    let f = g.F.Floating.width.format in
    let v = g.F.Floating.value in
    let X : Number f (v c.args.sigma) = record { fit = c.bits.ensures.held; fini = c.requires.1.fini } in
    let test = least_word g.met.F.Floating.known X c.requires.1.positive c.DIGITS.ensures (c.word.ensures.word ∙ c.bits.ensures.bits) in
    let above = sym test ∙ lt-leb _ _ (omega (arith, c.if-least.false)) in
    (omega (arith, c.requires.0), power_above f c.requires.1 X.fit above)

pub returns-else-least : goal.returns-else-least
returns-else-least g c =
    let f = g.F.Floating.width.format in
    let v = g.F.Floating.value in
    let X : Number f (v c.args.sigma) = record { fit = c.bits.ensures.held; fini = c.requires.1.fini } in
    let test = least_word g.met.F.Floating.known X c.requires.1.positive c.DIGITS.ensures (c.word.ensures.word ∙ c.bits.ensures.bits) in
    let above = sym test ∙ lt-leb _ _ (omega (arith, c.if-least.false)) in
    c.le.ensures ∙ at_most_is v g.F.PartialOrd.partial_cmp g.met.F.Floating.ordered c.scaled.result c.absolute.result
    ∙ rw (c.absolute.ensures, c.scaled.ensures, above)
