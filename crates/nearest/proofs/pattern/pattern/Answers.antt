-- `nearest::pattern::pattern` meets its contract: at most 2,088 digits are dropped, so the field and the quotient fit a word. Assumes nothing.
use Rattle.std.specs.Prelude.{◌≡◌, ℕ, ◌+◌, ◌*◌, ◌%◌, ◌^◌, ◌≤◌, ◌<◌}
use Rattle.std.proofs.Common.{le_trans, div-lt_iff_lt-mul, arith, pow_pos}
use Rattle.std.specs.Float.{Format, binary32, binary64}
use Rattle.std.specs.Float.Ieee.{prec, hid}
use Rattle.units.specs.Rounding.{dropped}
use Rattle.units.proofs.NaturalRounding.{dropped_lt, dropped_le}
use Rattle.kinds.specs.Limits.{Width}
use Rattle.kinds.specs.Known.{Known, is_doubles, is_singles}
use Rattle.nearest.specs.Sticky.{over_most}
use Rattle.nearest.proofs.pattern.pattern.Goals as goal

-- what a word drops, and what is left
few : (f : Format) {x d : ℕ} → d ≡ dropped (prec f) x → x < 2 ^ 64 → d ≤ 40
few binary32 {x} e h = rw e (dropped_le 24 x h)
few binary64 {x} e h = let l : dropped 53 x ≤ 11 = dropped_le 53 x h in rw e (omega (arith, l))

left : (f : Format) {x d : ℕ} → d ≡ dropped (prec f) x → x < 2 ^ 53 * 2 ^ d
left binary32 {x} {d} e = let l : x < 2 ^ 24 * 2 ^ d = rw e (dropped_lt 24 x) in omega (arith, l)
left binary64 {x} e = rw e (dropped_lt 53 x)

-- a field's place in a word
field : {W : Width} {d s i l m c r n : ℕ} → Known W d s i l m c r → n ≤ 2088 → n * 2 ^ d % 2 ^ 64 ≡ n * hid W.format
field is_doubles h = omega arith
field is_singles h = omega arith

narrow : (f : Format) {n : ℕ} → n ≤ 2088 → n * hid f ≤ 2088 * 2 ^ 52
narrow binary32 h = omega arith
narrow binary64 h = omega arith

pub overflow_add-result : goal.overflow_add-result
overflow_add-result g c = omega (arith, few g.F.Floating.width.format c.excess-d.ensures (omega arith))

pub quotient-requires : goal.quotient-requires
quotient-requires g c =
    let f = g.F.Floating.width.format in
    (omega (arith, few f c.excess-d.ensures (omega arith)), left f c.excess-d.ensures)

pub overflow_add-result-2 : goal.overflow_add-result-2
overflow_add-result-2 g c =
    let f = g.F.Floating.width.format in
    let h = c.args.h in
    let d = c.excess-d.result in
    let most : c.quotient.result ≤ 2 ^ 53 =
    rw c.quotient.ensures (le_trans (over_most h.rest h.digits (2 ^ d)) ((div-lt_iff_lt-mul (pow_pos d)).1 (left f c.excess-d.ensures))) in
    let n = h.below + d in
    let e : n * 2 ^ c.DIGITS.result % 2 ^ 64 ≡ n * hid f =
    rw c.DIGITS.ensures (field g.met.F.Floating.known (omega (arith, few f c.excess-d.ensures (omega arith)))) in
    let small : n * hid f ≤ 2088 * 2 ^ 52 = narrow f (omega (arith, few f c.excess-d.ensures (omega arith))) in
    rw e (omega (arith, most, small))

pub returns : goal.returns
returns g c =
    let f = g.F.Floating.width.format in
    let n = c.args.h.below + c.excess-d.result in
    let e : n * 2 ^ c.DIGITS.result % 2 ^ 64 ≡ n * hid f =
    rw c.DIGITS.ensures (field g.met.F.Floating.known (omega (arith, few f c.excess-d.ensures (omega arith)))) in
    rw (e, c.quotient.ensures, c.excess-d.ensures)
