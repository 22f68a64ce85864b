-- `exponent::exponent` meets its contract: a field of 0 has its digits as units, and any other is a power of two or lies between two. Assumes nothing.
use mathlib.Core.Path.{◌≡◌, sym, ◌∙◌}
use Prim.Native.Nat.{ℕ, suc, ◌+◌, ◌-◌, ◌*◌, ◌/◌, ◌%◌, ◌^◌, ◌≤◌, ◌<◌}
use native.Mathlib.Omega.{arith}
use lib.Ieee.{size, hid, ones, prec}
use Rattle.lists.proofs.LeadingZeros.{size_is}
use Rattle.ieee.proofs.Exponent.{exponent_power, exponent_between}
use Rattle.kinds.specs.Limits.{Width}
use Rattle.exponent.proofs.CeilingLaws.{subnormal_ceiling}
use Rattle.kinds.specs.Known.{Known}
use Rattle.exponent.proofs.PatternLaws.{digits_of}
use Rattle.exponent.proofs.exponent.Goals as goal

-- the weight of a field
weight : {W : Width} {d s i l m c r e p : ℕ} → Known W d s i l m c r → p < ones W.format * hid W.format → e ≡ d → 1 * 2 ^ e % 2 ^ 64 ≡ hid W.format
weight {p = p} K h i = rw i (digits_of K p h).word

pub returns-then-p-eq0 : goal.returns-then-p-eq0
unfolding size
returns-then-p-eq0 g c =
    let D = digits_of g.met.F.Floating.known c.args.p c.requires in
    rw c.if-p-eq0.true (sym (subnormal_ceiling g.F.Floating.width.format {r = 0} D.leading))

pub returns-then-p-least_normal : goal.returns-then-p-least_normal
returns-then-p-least_normal g c =
    let p = c.args.p in
    let D = digits_of g.met.F.Floating.known p c.requires in
    size_is 64 (p - 1) (omega (arith, D.wide))
    ∙ sym (subnormal_ceiling g.F.Floating.width.format {r = p}
    (rw (weight g.met.F.Floating.known c.requires c.DIGITS-digits.ensures) at c.if-p-least_normal.true))

pub overflow_cast-field : goal.overflow_cast-field
overflow_cast-field g c =
    let D = digits_of g.met.F.Floating.known c.args.p c.requires in
    rw (weight g.met.F.Floating.known c.requires c.DIGITS-digits.ensures) (omega (arith, D.field))

pub overflow_add-result : goal.overflow_add-result
overflow_add-result g c =
    let D = digits_of g.met.F.Floating.known c.args.p c.requires in
    rw (weight g.met.F.Floating.known c.requires c.DIGITS-digits.ensures) (omega (arith, D.field, D.few, c.DIGITS-digits.ensures))

pub returns-then-p-least_normal-eq0 : goal.returns-then-p-least_normal-eq0
returns-then-p-least_normal-eq0 g c =
    let p = c.args.p in
    let f = g.F.Floating.width.format in
    let D = digits_of g.met.F.Floating.known p c.requires in
    let w = weight g.met.F.Floating.known c.requires c.DIGITS-digits.ensures in
    let z : p % hid f ≡ 0 = rw w at c.if-p-least_normal-eq0.true in
    let a : hid f ≤ p = rw w at c.if-p-least_normal.false in
    let e : p / hid f ≡ suc (p / hid f - 1) = D.above a in
    let s : p / hid f + g.F.Floating.DIGITS - 1 ≡ prec f - 1 + (p / hid f - 1) = omega (arith, D.stored, e) in
    rw (w, c.DIGITS-digits.ensures) (s ∙ sym (exponent_power f p (p / hid f - 1) e z))

pub overflow_add-result-2 : goal.overflow_add-result-2
overflow_add-result-2 g c =
    let D = digits_of g.met.F.Floating.known c.args.p c.requires in
    rw (weight g.met.F.Floating.known c.requires c.DIGITS-digits.ensures) (omega (arith, D.field, D.few, c.DIGITS-digits.ensures))

pub returns : goal.returns
returns g c =
    let p = c.args.p in
    let f = g.F.Floating.width.format in
    let D = digits_of g.met.F.Floating.known p c.requires in
    let w = weight g.met.F.Floating.known c.requires c.DIGITS-digits.ensures in
    let n : 0 < p % (1 * 2 ^ c.DIGITS-digits.result % 2 ^ 64) = omega (arith, c.if-p-least_normal-eq0.false) in
    let z : 0 < p % hid f = rw w at n in
    let a : hid f ≤ p = rw w at c.if-p-least_normal.false in
    let e : p / hid f ≡ suc (p / hid f - 1) = D.above a in
    let s : p / hid f + g.F.Floating.DIGITS ≡ suc (prec f - 1 + (p / hid f - 1)) = omega (arith, D.stored, e) in
    rw (w, c.DIGITS-digits.ensures) (s ∙ sym (exponent_between f p (p / hid f - 1) e z))
