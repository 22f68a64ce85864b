-- `step_calls::numbers::float` meets its contract: a number of the format's patterns that is no NaN's is read as its float, and no other is. Assumes nothing.
use Rattle.std.proofs.Common.{sym, ap, ◌∙◌, T, not, subst, ℕ, arith}
use Rattle.std.specs.Float.Ieee.{nan_bits, of_bits}
use Rattle.kinds.proofs.KnownLaws.{figures}
use Rattle.step_calls.proofs.Readable.{number_looked, number_no_nan, number_float}
use Rattle.step_calls.proofs.numbers.float.Goals as goal

pub from_bits-requires : goal.from_bits-requires
from_bits-requires g c =
    let f = g.F.Floating.width.format in
    let K = figures g.met.F.Floating.known in
    let n = number_looked f c.args.p (c.SIGN.ensures ∙ K.sign) (c.SIGN-2.ensures ∙ K.sign) (c.INFINITY.ensures ∙ K.infinity) (λ h. omega (arith, h))
    c.if-INFINITY-p.false in
    subst (λ (p : ℕ). T (not (nan_bits f p))) (sym c.from_word.ensures) (number_no_nan f c.args.p n)

pub returns : goal.returns
returns g c =
    let f = g.F.Floating.width.format in
    let K = figures g.met.F.Floating.known in
    let n = number_looked f c.args.p (c.SIGN.ensures ∙ K.sign) (c.SIGN-2.ensures ∙ K.sign) (c.INFINITY.ensures ∙ K.infinity) (λ h. omega (arith, h))
    c.if-INFINITY-p.false in
    (n, c.from_bits.ensures ∙ ap (of_bits f) c.from_word.ensures ∙ number_float f c.args.p n)
