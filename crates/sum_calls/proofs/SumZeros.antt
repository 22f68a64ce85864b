-- Rule S3 of the sums in one call, from C: which zero is written where the exact sum is zero, and of nothing but -0 all that is left; a line for each width.
-- Assumes nothing.
use Rattle.std.specs.Prelude.{◌≡◌, true, List, [], ◌∷◌, ℕ, pos, length, Float}
use Rattle.std.proofs.Common.{ap, ◌∙◌}
use Rattle.std.specs.Float.Ieee.{top}
use Rattle.ieee.proofs.Zeros.{minus_bits}
use Rattle.kinds.specs.Limits.{Width, doubles, singles}
use Rattle.kinds.specs.Outcome.{outcome}
use Rattle.kinds.specs.Heard.{step_heard}
use Rattle.kinds.specs.Verdict.{Good}
use Rattle.judge.specs.Judge.{floats}
use Rattle.judge.specs.Table.{ListWhen, MinusZeros, ZeroWhen}
use Rattle.rounds.specs.Fitting.{Fitting}
use Rattle.rounds.specs.Instances.{doubles_fit, singles_fit}
use Rattle.walk.specs.Walk.{Walked, faithful_of}
use Rattle.sums.specs.Sums.{sum_of, Summing}
use Rattle.sums.proofs.ZeroSums as sums
use Rattle.runs.proofs.ZeroSum as walks
use Rattle.runs.specs.Instances.{Accepted}
use Rattle.arrays.specs.Arrays.{code_of, values_of, returned}
use Rattle.sum_calls.specs.SumArrays.{faithful_with, nearest_with, faithful_arrays, faithful_singles}
use Rattle.sum_calls.proofs.SumArraysLaws.{faithful_walked, nearest_summed}

module _ {W : Width} (ps : List ℕ) (s : sum_of W.format ps ≡ pos 0) {p : ℕ} (Z : ZeroWhen W ps p) (out : List ℕ) where
  pub nearest_zero : Summing W → ListWhen W true true ps Good → length out ≡ 1 → nearest_with W ps out ≡ outcome 0 (p ∷ [])
  nearest_zero R G l = nearest_summed W ps out l ∙ ap (λ h. outcome (code_of h) (values_of h out)) ((sums.nearest_zero R ps s G p).1 Z)

  pub faithful_zero : Fitting W → (work : List Float) → Accepted W ps work → length out ≡ 2
      → (r : ℕ) × (faithful_with W ps work out ≡ returned 0 (faithful_of W ps work).area (p ∷ r ∷ []))
  faithful_zero F work G l =
      let z = walks.faithful_zero F ps work G s in
      (z.0, faithful_walked W ps work out l ∙ ap (λ h. returned (code_of h) (faithful_of W ps work).area (values_of h out)) ((z.1 p).1 Z))

pub faithful_minus : {W : Width} → Fitting W → (ps : List ℕ) (work : List Float) (out : List ℕ) → Accepted W ps work → length out ≡ 2 → MinusZeros W ps
    → faithful_with W ps work out ≡ returned 0 (floats W ps) (top W.format ∷ 0 ∷ [])
faithful_minus {W} F ps work out G l M =
    faithful_walked W ps work out l
    ∙ ap (λ (w : Walked). returned (code_of (step_heard W w.answer)) w.area (values_of (step_heard W w.answer) out)) (walks.faithful_minus F ps work G M)
    ∙ ap (λ (b : ℕ). returned 0 (floats W ps) (b ∷ 0 ∷ [])) (minus_bits W.format)

module _ (ps : List ℕ) (work : List Float) (out : List ℕ) where
  pub faithful_minus_64 : Accepted doubles ps work → length out ≡ 2 → MinusZeros doubles ps
      → faithful_arrays ps work out ≡ returned 0 (floats doubles ps) (0x8000000000000000 ∷ 0 ∷ [])
  faithful_minus_64 = faithful_minus doubles_fit ps work out

  pub faithful_minus_32 : Accepted singles ps work → length out ≡ 2 → MinusZeros singles ps
      → faithful_singles ps work out ≡ returned 0 (floats singles ps) (0x80000000 ∷ 0 ∷ [])
  faithful_minus_32 = faithful_minus singles_fit ps work out
