-- `rounds::close::scaled` meets its contract: the product of two powers of two is the power of two at the sum of their exponents, and its pattern has a lower
-- field, or one digit. Assumes nothing.
use Rattle.std.specs.Prelude.{◌≡◌, ◌+◌, ◌-◌, ◌*◌, ◌/◌, ◌%◌, ◌^◌, ◌<◌}
use Rattle.std.proofs.Common.{arith, ap, ◌∙◌}
use Rattle.std.specs.Float.Ieee.{prec}
use Rattle.ieee.proofs.Finite.{finite_no_nan}
use Rattle.exponent.specs.Power.{powers, power_of}
use Rattle.exponent.proofs.PowerLaws.{high_power}
use Rattle.rounds.specs.Instances.{fit_of}
use Rattle.rounds.proofs.PatternLaws.{scaled_power}
use Rattle.rounds.proofs.WidthLaws.{fields_of}
use Rattle.rounds.proofs.close.scaled.Goals as goal

pub bits-requires : goal.bits-requires
bits-requires g c = finite_no_nan (g.F.Floating.value c.args.sigma) c.requires.1.fini

pub from_bits-requires : goal.from_bits-requires
from_bits-requires g c =
    let D = fields_of g.met.F.Floating.known c.requires.1 c.bits.ensures.held c.DIGITS-digits.ensures c.requires.0
    (c.word-p.ensures.word ∙ c.bits.ensures.bits) in
    rw (c.from_word.ensures, c.from.ensures) (D.lower (rw c.from.ensures at c.if-down-p.true)).no_nan

pub returns-then-down-p : goal.returns-then-down-p
returns-then-down-p g c =
    let f = g.F.Floating.width.format in
    let P = c.requires.1 in
    let D = fields_of g.met.F.Floating.known c.requires.1 c.bits.ensures.held c.DIGITS-digits.ensures c.requires.0
    (c.word-p.ensures.word ∙ c.bits.ensures.bits) in
    let L = D.lower (rw c.from.ensures at c.if-down-p.true) in
    let inside : P.k + c.args.j - prec f < powers f = omega (arith, P.to, P.from, c.requires.0) in
    c.from_bits.ensures
    ∙ rw (c.from_word.ensures, c.from.ensures, L.pattern)
    (high_power f inside L.y L.digit ∙ scaled_power f c.args.j (fit_of g.met.F.Floating.known).fine c.requires.0 P c.bits.ensures.held)

pub overflow_shl-field : goal.overflow_shl-field
overflow_shl-field g c =
    let D = fields_of g.met.F.Floating.known c.requires.1 c.bits.ensures.held c.DIGITS-digits.ensures c.requires.0
    (c.word-p.ensures.word ∙ c.bits.ensures.bits) in
    D.few

pub nonzero_div-field : goal.nonzero_div-field
nonzero_div-field g c =
    let D = fields_of g.met.F.Floating.known c.requires.1 c.bits.ensures.held c.DIGITS-digits.ensures c.requires.0
    (c.word-p.ensures.word ∙ c.bits.ensures.bits) in
    D.leading

pub overflow_cast-field-2 : goal.overflow_cast-field-2
overflow_cast-field-2 g c =
    let D = fields_of g.met.F.Floating.known c.requires.1 c.bits.ensures.held c.DIGITS-digits.ensures c.requires.0
    (c.word-p.ensures.word ∙ c.bits.ensures.bits) in
    omega (arith, D.field, D.reach)

pub overflow_add-field : goal.overflow_add-field
overflow_add-field g c =
    let D = fields_of g.met.F.Floating.known c.requires.1 c.bits.ensures.held c.DIGITS-digits.ensures c.requires.0
    (c.word-p.ensures.word ∙ c.bits.ensures.bits) in
    omega (arith, D.field, D.reach)

pub overflow_sub-field : goal.overflow_sub-field
overflow_sub-field g c =
    let D = fields_of g.met.F.Floating.known c.requires.1 c.bits.ensures.held c.DIGITS-digits.ensures c.requires.0
    (c.word-p.ensures.word ∙ c.bits.ensures.bits) in
    omega (arith, D.field)

pub overflow_add-field-2 : goal.overflow_add-field-2
overflow_add-field-2 g c =
    let D = fields_of g.met.F.Floating.known c.requires.1 c.bits.ensures.held c.DIGITS-digits.ensures c.requires.0
    (c.word-p.ensures.word ∙ c.bits.ensures.bits) in
    omega (arith, D.field, D.reach, D.digits, D.few, c.requires.0)

pub overflow_sub-field-2 : goal.overflow_sub-field-2
overflow_sub-field-2 g c =
    let D = fields_of g.met.F.Floating.known c.requires.1 c.bits.ensures.held c.DIGITS-digits.ensures c.requires.0
    (c.word-p.ensures.word ∙ c.bits.ensures.bits) in
    omega (arith, D.field, D.digits, c.requires.1.from)

pub power-requires : goal.power-requires
power-requires g c =
    let D = fields_of g.met.F.Floating.known c.requires.1 c.bits.ensures.held c.DIGITS-digits.ensures c.requires.0
    (c.word-p.ensures.word ∙ c.bits.ensures.bits) in
    omega (arith, D.field, D.digits, c.requires.1.from, c.requires.1.to, c.requires.0)

pub returns : goal.returns
returns g c =
    let f = g.F.Floating.width.format in
    let P = c.requires.1 in
    let D = fields_of g.met.F.Floating.known c.requires.1 c.bits.ensures.held c.DIGITS-digits.ensures c.requires.0
    (c.word-p.ensures.word ∙ c.bits.ensures.bits) in
    let d = c.DIGITS-digits.result in
    let k : c.word-p.result / (1 * 2 ^ d % 2 ^ 64) + d - 1 + c.args.j - (d + 1) ≡ P.k + c.args.j - prec f = omega (arith, D.field, D.digits) in
    c.power.ensures ∙ ap (power_of f) k
    ∙ scaled_power f c.args.j (fit_of g.met.F.Floating.known).fine c.requires.0 P c.bits.ensures.held
