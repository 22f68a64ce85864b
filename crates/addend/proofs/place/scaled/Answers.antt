-- `addend::place::scaled` meets its contract: the magnitude by the pattern's fields. Assumes nothing.
use Rattle.std.specs.Prelude.{◌≡◌, ℕ, ◌+◌, ◌-◌, ◌*◌, ◌/◌, ◌%◌, ◌^◌, ◌<◌}
use Rattle.std.proofs.Common.{sym, ◌∙◌, arith, mul-one, ltb→lt}
use Rattle.std.specs.Float.{Format, binary32, binary64}
use Rattle.std.specs.Float.Ieee.{prec, ones, hid, top}
use Rattle.ieee.proofs.Pattern.{pattern_finite}
use Rattle.kinds.proofs.KnownLaws.{figures}
use Rattle.addend.specs.PatternFields.{pattern_subnormal, pattern_normal}
use Rattle.addend.specs.Addend.{Scaled}
use Rattle.addend.proofs.place.scaled.Goals as goal

-- the digits of a significand, and how many fields a number may have
digits_low : (f : Format) (m : ℕ) → m % hid f < 2 ^ prec f
digits_low binary32 m = omega arith
digits_low binary64 m = omega arith

digits_high : (f : Format) (m : ℕ) → hid f + m % hid f < 2 ^ prec f
digits_high binary32 m = omega arith
digits_high binary64 m = omega arith

fields : (f : Format) (m : ℕ) → m < ones f * hid f → m / hid f < ones f
fields binary32 m h = omega arith
fields binary64 m h = omega arith

some : (f : Format) → 1 < ones f
some binary32 = omega arith
some binary64 = omega arith

pub returns-then-field-eq0 : goal.returns-then-field-eq0
returns-then-field-eq0 g c =
    let f = g.F.Floating.width.format in
    let p = c.args.p in
    let w : 1 * 2 ^ c.DIGITS.result % 2 ^ 64 ≡ hid f = rw c.DIGITS.ensures (figures g.met.F.Floating.known).weight in
    let e : c.SIGN.result ≡ top f = c.SIGN.ensures ∙ (figures g.met.F.Floating.known).sign in
    let z : p % top f / hid f ≡ 0 = rw (w, e) at c.if-field-eq0.true in
    let m = pattern_subnormal f p c.requires z in
    let s : Scaled f p (p % top f % hid f) 0 =
    record { digits = digits_low f (p % top f); shift = some f; units = mul-one (p % top f % hid f) ∙ sym m } in
    rw (w, e) s

pub returns : goal.returns
returns g c =
    let f = g.F.Floating.width.format in
    let p = c.args.p in
    let w : 1 * 2 ^ c.DIGITS.result % 2 ^ 64 ≡ hid f = rw c.DIGITS.ensures (figures g.met.F.Floating.known).weight in
    let e : c.SIGN.result ≡ top f = c.SIGN.ensures ∙ (figures g.met.F.Floating.known).sign in
    let h : p % top f < ones f * hid f = ltb→lt (p % top f) (ones f * hid f) (rw (pattern_finite f p) at c.requires) in
    let z : p % top f / hid f ≡ 0 → ⊥ = rw (w, e) at c.if-field-eq0.false in
    let m = pattern_normal f p c.requires (omega (arith, z)) in
    let s : Scaled f p (hid f + p % top f % hid f) (p % top f / hid f - 1) =
    record { digits = digits_high f (p % top f); shift = omega (arith, fields f (p % top f) h); units = sym m } in
    rw (w, e) s
