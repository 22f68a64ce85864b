-- Rule S3 for the faithful walk: a list of nothing but -0 is finished at its opening, with -0 after 0 rounds; no other list has the sum -0; and where the exact
-- sum is zero the sum is the zero that the list asks for. Assumes nothing.
use Rattle.std.specs.Prelude.{◌≡◌, refl, ◌↔◌, Bool, true, List, ℕ, ◌<◌, eqb, pos, nat_abs, length, Float}
use Rattle.std.proofs.Common.{sym, ap, ◌∙◌, arith}
use Rattle.std.specs.Float.Ieee.{top, to_bits}
use Rattle.ieee.specs.Units.{limit, magnitude, negative, value, nearest_float}
use Rattle.ieee.proofs.Finite.{same_float}
use Rattle.ieee.proofs.Sum.{value_mag}
use Rattle.ieee.proofs.Overflow.{power_below, nearest_negative}
use Rattle.ieee.proofs.Nearest.{nearest_number}
use Rattle.ieee.specs.Zeros.{minus_zero}
use Rattle.ieee.proofs.Zeros.{zero_value, minus_nearest, minus_sign, minus_magnitude, bits_minus}
use Rattle.kinds.specs.Limits.{Width}
use Rattle.kinds.specs.Outcome.{outcome}
use Rattle.kinds.specs.Heard.{step_heard, done}
use Rattle.kinds.specs.Step.{Done}
use Rattle.kinds.specs.Verdict.{Good}
use Rattle.judge.specs.Judge.{floats, zero_sign}
use Rattle.judge.specs.Table.{ListWhen, MinusZeros, ZeroWhen}
use Rattle.judge.proofs.ZeroLaws.{zero_sign_lem, zero_when}
use Rattle.sums.specs.Sums.{sum_of}
use Rattle.rounds.specs.Round.{all_zero}
use Rattle.rounds.specs.Fitting.{Fitting}
use Rattle.walk.specs.Walk.{Walked, opened, faithful_of}
use Rattle.walk.proofs.UndividedLaws.{faithful_done}
use Rattle.runs.specs.OpenedSum.{zero_of}
use Rattle.runs.proofs.OpenedSum.{minus_all_zero, opened_zero}
use Rattle.runs.specs.Faithful.{FaithfulSum}
use Rattle.runs.proofs.Faithful.{faithful_promised}

module _ {W : Width} (F : Fitting W) (ps : List ℕ) (work : List Float) (G : ListWhen W (eqb (length work) (length ps)) true ps Good) where
  -- ---- nothing but -0
  module _ (M : MinusZeros W ps) where
    is_minus : zero_of W ps ≡ minus_zero W.format
    is_minus = ap (λ (z : Bool). nearest_float W.format z (pos 0)) ((zero_sign_lem W ps).1 M) ∙ minus_nearest W.format

    pub opened_minus : (k : ℕ) → opened W k ps work ≡ outcome (Done (minus_zero W.format) 0) (floats W ps)
    opened_minus k = opened_zero F k ps work G (minus_all_zero M) ∙ ap (λ (x : Float). outcome (Done x 0) (floats W ps)) is_minus

    pub faithful_minus : faithful_of W ps work ≡ outcome (Done (minus_zero W.format) 0) (floats W ps)
    faithful_minus = sym (faithful_done F 0 ps work (Done (minus_zero W.format) 0) (floats W ps) (sym (opened_minus 0)) _ 0 refl)

  -- ---- nothing but zeros: which of the two, after no round
  pub opened_zeros : all_zero W.format (floats W ps) ≡ true → (k : ℕ) {p : ℕ} → ZeroWhen W ps p → step_heard W (opened W k ps work).answer ≡ done p 0
  opened_zeros a k {p} Z =
      ap (λ (w : Walked). step_heard W w.answer) (opened_zero F k ps work G a) ∙ ap (λ (b : ℕ). done b 0) ((zero_when W ps p).1 Z)

  promised : FaithfulSum W ps (faithful_of W ps work)
  promised = faithful_promised F ps work G

  heard : step_heard W (faithful_of W ps work).answer ≡ done (to_bits W.format promised.sum) promised.rounds
  heard = ap (step_heard W) promised.answer

  -- no other list has it
  pub faithful_only : (r : ℕ) → step_heard W (faithful_of W ps work).answer ≡ done (top W.format) r → MinusZeros W ps
  faithful_only r e =
      let f = W.format in
      let x = promised.sum in
      let h : done (to_bits f x) promised.rounds ≡ done (top f) r = sym heard ∙ e in
      let same : x ≡ minus_zero f = bits_minus promised.faithful.number (cc) in
      (zero_sign_lem W ps).0 (sym (promised.zero (ap (magnitude f) same ∙ minus_magnitude f)) ∙ ap negative same ∙ minus_sign f)

  -- ---- the exact sum is zero
  module _ (s : sum_of W.format ps ≡ pos 0) where
    some : 0 < limit W.format
    some = omega (arith, power_below W.format {k = 0} (omega arith))

    sum_is : promised.sum ≡ nearest_float W.format (zero_sign W ps) (pos 0)
    sum_is =
        let f = W.format in
        let z = zero_sign W ps in
        let x = promised.sum in
        let none : value f x ≡ pos 0 = promised.faithful.exact _ (nearest_number f z (pos 0) some) (zero_value f z ∙ sym s) ∙ s in
        let sign : negative x ≡ z = promised.zero (sym (value_mag f x) ∙ ap nat_abs none) in
        same_float promised.faithful.number (nearest_number f z (pos 0) some) (none ∙ sym (zero_value f z))
        (λ e. sign ∙ sym (nearest_negative f z (pos 0) some))

    pub faithful_zero : (r : ℕ) × ((p : ℕ) → (step_heard W (faithful_of W ps work).answer ≡ done p r) ↔ ZeroWhen W ps p)
    faithful_zero = (promised.rounds, λ p. (there p, back p))
      where
        there : (p : ℕ) → step_heard W (faithful_of W ps work).answer ≡ done p promised.rounds → ZeroWhen W ps p
        there p e =
            let h : done (to_bits W.format promised.sum) promised.rounds ≡ done p promised.rounds = sym heard ∙ e in
            let same : to_bits W.format promised.sum ≡ p = cc in
            (zero_when W ps p).0 (ap (to_bits W.format) (sym sum_is) ∙ same)

        back : (p : ℕ) → ZeroWhen W ps p → step_heard W (faithful_of W ps work).answer ≡ done p promised.rounds
        back p Z = heard ∙ ap (λ (b : ℕ). done b promised.rounds) (ap (to_bits W.format) sum_is ∙ (zero_when W ps p).1 Z)
