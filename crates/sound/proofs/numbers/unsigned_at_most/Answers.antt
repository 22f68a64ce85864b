-- `sound::numbers::unsigned_at_most` meets its contract: of a number, the sign is the greatest digit of its pattern. Assumes nothing.
use Rattle.std.specs.Prelude.{◌≡◌, Bool, true, not, ◌&&◌, ltb, leb}
use Rattle.std.specs.Float.Ieee.{top, to_bits}
use Rattle.std.proofs.Common.{ap, sym, ◌∙◌}
use Rattle.std.proofs.Math.Dec.{ltb→lt, lt→ltb, nleb→lt}
use lib.Arith.{lt→nleb}
use Rattle.ieee.specs.Units.{Number, negative, magnitude}
use Rattle.ieee.proofs.Finite.{finite_no_nan}
use Rattle.ieee.proofs.Fractions.{same_test}
use Rattle.ieee.proofs.PatternBounds.{bits_units}
use Rattle.kinds.proofs.KnownLaws.{figures}
use Rattle.sound.specs.Sound.{at_most}
use Rattle.sound.proofs.SoundLaws.{at_most_holds}
use Rattle.sound.proofs.numbers.unsigned_at_most.Goals as goal

pub bits-requires : goal.bits-requires
bits-requires g c =
    let v = g.F.Floating.value in
    let W = g.F.Floating.width in
    finite_no_nan (v c.args.x) (at_most_holds W (magnitude W.format (v c.args.limit)) (v c.args.x) (sym c.at_most.ensures ∙ c.if-at_most.true)).fini

pub returns-then-at_most : goal.returns-then-at_most
returns-then-at_most g c =
    let W = g.F.Floating.width in
    let f = W.format in
    let v = g.F.Floating.value in
    let K = figures g.met.F.Floating.known in
    let x = v c.args.x in
    let most = magnitude f (v c.args.limit) in
    let test : true ≡ at_most W most x = sym c.if-at_most.true ∙ c.at_most.ensures in
    let number : Number f x = record { fit = c.bits.ensures.held; fini = (at_most_holds W most x (sym test)).fini } in
    let p = to_bits f x in
    let t = top f in
    let e : c.word.result ≡ p = c.word.ensures.word ∙ c.bits.ensures.bits in
    let s : c.SIGN.result ≡ t = c.SIGN.ensures ∙ K.sign in
    rw (e, s) (same_test (ltb p t) (not (leb t p)) (λ h. lt→nleb t p (ltb→lt p t h)) (λ h. lt→ltb p t (nleb→lt t p h))
    ∙ ap not (sym (bits_units number).0)
    ∙ ap (λ (b : Bool). b && not (negative x)) test)
