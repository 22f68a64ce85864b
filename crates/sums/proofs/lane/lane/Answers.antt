-- `sums::lane::lane` meets its contract: the magnitude by the pattern's fields, and the lane from where the shift stands. Assumes nothing.
use mathlib.Core.Path.{◌≡◌, sym, ap, ◌∙◌}
use Prim.Native.Nat.{ℕ, ◌+◌, ◌-◌, ◌*◌, ◌/◌, ◌%◌, ◌^◌, ◌≤◌, ◌<◌}
use native.Mathlib.Nat.{mul-one, mul_assoc, mod-add-div}
use native.Mathlib.Omega.{arith}
use lib.Ieee.{of_bits}
use lib.Pow.{pow-add}
use Rattle.ieee.specs.Units.{magnitude}
use Rattle.kinds.specs.Limits.{doubles}
use Rattle.addend.specs.PatternFields.{pattern_subnormal, pattern_normal}
use Rattle.sums.specs.SignLanes.{lane_bits, AtLane}
use Rattle.sums.proofs.lane.lane.Goals as goal

-- a shift by e, of which five bits are the shift within the lane that the others give
shifted : (m e : ℕ) → m * 2 ^ (e % 32) * 2 ^ (32 * (e / 32)) ≡ m * 2 ^ e
shifted m e =
    mul_assoc m (2 ^ (e % 32)) (2 ^ (32 * (e / 32)))
    ∙ ap (λ (x : ℕ). m * x) (sym (pow-add 2 (e % 32) (32 * (e / 32))) ∙ ap (λ (x : ℕ). 2 ^ x) (mod-add-div e 32))

-- q has p's sign and the shift e in its exponent's field
module _ (p q m e : ℕ) {k d h : ℕ} (fits : p < 2 ^ 64) (field : q / 2 ^ 52 ≡ 2048 * (p / 2 ^ 63) + e) (small : e < 2048) where
  at_lane : (k ≡ q / 2 ^ 57) × (d + h * 2 ^ lane_bits ≡ m * 2 ^ (q / 2 ^ 52 % 32)) × (d < 2 ^ lane_bits) × (h ≤ 2 ^ 52)
      → m * 2 ^ e ≡ magnitude doubles.format (of_bits doubles.format p) → AtLane p k d h
  at_lane cut u =
      let n = cut.0 in
      let s : q / 2 ^ 52 % 32 ≡ e % 32 = omega arith in
      let l : k % 64 ≡ e / 32 = omega arith in
      record {
        within = omega arith;
        side = omega arith;
        low = cut.2;
        above = cut.3;
        units = rw (cut.1, s, l) (shifted m e ∙ u);
      }

pub returns-then-p-lt-LEAST_NORMAL : goal.returns-then-p-lt-LEAST_NORMAL
returns-then-p-lt-LEAST_NORMAL c =
    let p = c.args.p in
    let low : p % 2 ^ 63 < 2 ^ 52 = c.if-p-lt-LEAST_NORMAL.true in
    let fits : p < 2 ^ 64 = c.ranges.p.fits in
    let none : p % 2 ^ 63 / 2 ^ 52 ≡ 0 = omega arith in
    let digits : p % 2 ^ 52 ≡ p % 2 ^ 63 % 2 ^ 52 = omega arith in
    at_lane p p (p % 2 ^ 52) 0 fits (omega arith) (omega arith) c.cut.ensures
    (mul-one (p % 2 ^ 52) ∙ digits ∙ sym (pattern_subnormal doubles.format p c.requires none))

pub returns : goal.returns
returns c =
    let p = c.args.p in
    let fits : p < 2 ^ 64 = c.ranges.p.fits in
    let high : 2 ^ 52 ≤ p % 2 ^ 63 = c.if-p-lt-LEAST_NORMAL.false in
    let some : 0 < p % 2 ^ 63 / 2 ^ 52 = omega arith in
    let digits : p % 2 ^ 52 ≡ p % 2 ^ 63 % 2 ^ 52 = omega arith in
    let e = p % 2 ^ 63 / 2 ^ 52 - 1 in
    at_lane p (p - 2 ^ 52) (2 ^ 52 + p % 2 ^ 52) e fits (omega arith) (omega arith) c.cut-2.ensures
    (ap (λ (d : ℕ). (2 ^ 52 + d) * 2 ^ e) digits ∙ sym (pattern_normal doubles.format p c.requires some))
