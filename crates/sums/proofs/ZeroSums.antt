-- Rule S3, said of the definitions that the contracts of the nearest sum and the parts cite: which zero is answered exactly when, where the exact sum is zero.
-- Assumes nothing.
use Rattle.std.specs.Prelude.{◌≡◌, ◌↔◌, Bool, true, ℤ, pos, ◌-ℤ◌, length, Float}
use Rattle.std.proofs.Math.Path.{refl, sym, ap}
use Rattle.std.proofs.Common.{◌∙◌, arith}
use Rattle.std.proofs.Math.Bool.{false, cond}
use mathlib.Core.List.{List, [], ◌∷◌, map}
use Prim.Native.Nat.{ℕ, zero, suc, ◌-◌}
use Rattle.std.proofs.Math.ListN.{replicate}
use Rattle.std.specs.Float.{Format}
use Rattle.std.specs.Float.Ieee.{top, to_bits}
use Rattle.std.specs.Float.Ieee.Bits.{is_true}
use Rattle.units.specs.Whole.{exact_sum}
use Rattle.ieee.specs.Units.{negative, magnitude, value, nearest_float}
use Rattle.ieee.specs.Zeros.{minus_zero}
use Rattle.ieee.proofs.Zeros.{zero_bits, zero_value, minus_value, minus_sign, minus_magnitude, bits_minus}
use Rattle.lists.specs.Each.{Each}
use Rattle.kinds.specs.Limits.{Width}
use Rattle.kinds.specs.Outcome.{Outcome, outcome}
use Rattle.kinds.specs.Heard.{nearest_heard, nearest}
use Rattle.kinds.specs.Verdict.{Good}
use Rattle.kinds.specs.Parted.{Parted}
use Rattle.kinds.specs.Parted.{Parts}
use Rattle.judge.specs.Judge.{floats, minus_pattern, zero_sign}
use Rattle.judge.specs.Table.{ListWhen, MinusZeros, ZeroWhen, minus}
use Rattle.judge.proofs.JudgeLaws.{list_passed, list_allowed}
use Rattle.judge.proofs.ZeroLaws.{zero_sign_lem, zero_when}
use Rattle.judge.specs.IeeeZero.{ieee_sum, Patterns}
use Rattle.judge.proofs.IeeeZero.{ieee_zero}
use Rattle.sums.specs.Sums.{sum_of, nearest_of, parts, add_up, fitting, parts_of, Summing}
use Rattle.sums.proofs.SumLaws.{sum_below_limit}
use Rattle.sums.proofs.PartsMeaning.{fitting_when, add_up_when, nearest_sign}
use Rattle.sums.proofs.Promised.{nearest_promised, parts_promised}

-- a list of nothing but -0 has the exact sum zero
pub minus_sum : {W : Width} (ps : List ℕ) → MinusZeros W ps → sum_of W.format ps ≡ pos 0
minus_sum {W} ps M = go ps M.each
  where
    go : (ps : List ℕ) → Each (λ p. p ≡ minus_pattern W) ps → sum_of W.format ps ≡ pos 0
    go [] h = refl
    go (p ∷ ps) h = rw (h.0, minus_value W.format, go ps h.1)

-- ---- the parts of zero: the first has the sign that it is given, and the others are +0
module _ (f : Format) where
  no_more : (z : Bool) → pos 0 -ℤ value f (nearest_float f z (pos 0)) ≡ pos 0
  no_more z = ap (λ (v : ℤ). pos 0 -ℤ v) (zero_value f z)

  parts_bits : (k : ℕ) (z : Bool) → map (to_bits f) (parts f (suc k) z (pos 0)) ≡ cond z (top f) 0 ∷ replicate k 0
  unfolding parts
  parts_bits zero z = ap (λ (b : ℕ). b ∷ []) (zero_bits f z)
  parts_bits (suc k) z = rw (no_more z) (λ i. zero_bits f z i ∷ parts_bits k false i)

  parts_add : (k : ℕ) (z : Bool) → exact_sum (map (value f) (parts f k z (pos 0))) ≡ pos 0
  unfolding parts
  parts_add zero z = refl
  parts_add (suc k) z = rw (no_more z, zero_value f z, parts_add k false)

-- ---- what is answered
module _ {W : Width} (R : Summing W) (ps : List ℕ) (s : sum_of W.format ps ≡ pos 0) where
  bits : ℕ
  bits = to_bits W.format (nearest_float W.format (zero_sign W ps) (pos 0))

  module _ (G : ListWhen W true true ps Good) where
    heard : nearest_heard W (nearest_of W ps) ≡ nearest bits
    unfolding bits
    heard = rw s at (nearest_promised R ps G).0

    pub nearest_zero : (p : ℕ) → (nearest_heard W (nearest_of W ps) ≡ nearest p) ↔ ZeroWhen W ps p
    unfolding bits
    nearest_zero p = (
      λ e. let h : nearest bits ≡ nearest p = sym heard ∙ e in let same : bits ≡ p = cc in (zero_when W ps p).0 same,
      λ Z. heard ∙ ap nearest ((zero_when W ps p).1 Z),
    )

  -- the first part is that zero, every other +0, and they add up
  module _ (area : List Float) (G : ListWhen W true (fitting W area) ps Good) where
    left : List Float
    left = parts W.format (length area) (zero_sign W ps) (pos 0)

    answered : parts_of W ps area ≡ outcome (Parts (add_up W.format left (pos 0))) left
    unfolding left
    answered = rw s at (parts_promised R ps area G).0

    flag : add_up W.format left (pos 0) ≡ true
    unfolding left
    flag = (add_up_when W.format left (pos 0)).1 (parts_add W.format (length area) (zero_sign W ps))

    count : length area ≡ suc (length area - 1)
    count = omega (arith, ((fitting_when W area).0 (is_true (fitting W area) (list_passed G).right_parts)).0)

    pub parts_zero : {p : ℕ} → ZeroWhen W ps p
        → ((parts_of W ps area).answer ≡ Parts true) × (map (to_bits W.format) (parts_of W ps area).area ≡ p ∷ replicate (length area - 1) 0)
    unfolding left
    parts_zero {p} Z =
        let f = W.format in
        let first : cond (zero_sign W ps) (top f) 0 ≡ p = sym (zero_bits f (zero_sign W ps)) ∙ (zero_when W ps p).1 Z in (
          ap (λ (w : Outcome Parted Float). w.answer) answered ∙ ap Parts flag,
          ap (λ (w : Outcome Parted Float). map (to_bits f) w.area) answered
              ∙ ap (λ (k : ℕ). map (to_bits f) (parts f k (zero_sign W ps) (pos 0))) count
              ∙ parts_bits f (length area - 1) (zero_sign W ps)
              ∙ ap (λ (b : ℕ). b ∷ replicate (length area - 1) 0) first,
        )

-- ---- nothing but -0, whatever the exact sum may be
module _ {W : Width} (R : Summing W) (ps : List ℕ) where
  pub nearest_minus : ListWhen W true true ps Good → (nearest_heard W (nearest_of W ps) ≡ nearest (minus_pattern W)) ↔ MinusZeros W ps
  nearest_minus G = (
    λ e.
        let f = W.format in
        let S = sum_of f ps in
        let x = nearest_float f (zero_sign W ps) S in
        let P = nearest_promised R ps G in
        let h : nearest (to_bits f x) ≡ nearest (minus_pattern W) = sym P.0 ∙ e in
        let same : x ≡ minus_zero f = bits_minus P.1.number (cc) in
        let sign = nearest_sign f (zero_sign W ps) S (sum_below_limit R (list_passed G).few (list_allowed G)) (ap (magnitude f) same ∙ minus_magnitude f) in
        (zero_sign_lem W ps).0 (sym sign ∙ ap negative same ∙ minus_sign f),
    λ M. (nearest_zero R ps (minus_sum ps M) G (minus_pattern W)).1 (minus M),
  )

  pub parts_minus : (area : List Float) → ListWhen W true (fitting W area) ps Good → MinusZeros W ps
      → map (to_bits W.format) (parts_of W ps area).area ≡ minus_pattern W ∷ replicate (length area - 1) 0
  parts_minus area G M = (parts_zero R ps (minus_sum ps M) area G (minus M)).1

  -- so it is -0 exactly where IEEE 754's own sum is, from the first number on
  pub nearest_ieee : ListWhen W true true ps Good → Patterns W ps
      → (nearest_heard W (nearest_of W ps) ≡ nearest (minus_pattern W))
      ↔ (ieee_sum W.format (floats W ps) ≡ minus_zero W.format)
  nearest_ieee G P = (λ e. (ieee_zero W ps P).1 ((nearest_minus G).0 e), λ e. (nearest_minus G).1 ((ieee_zero W ps P).0 e))
