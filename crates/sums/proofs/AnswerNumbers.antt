-- What the nearest sum answers is a number, so that its bits may be read, or a refusal of the table. Assumes nothing.
use Rattle.std.specs.Prelude.{◌≡◌, refl, true, not, List, ℕ, T, Float}
use Rattle.std.proofs.Common.{sym, ◌∙◌, subst}
use Rattle.std.specs.Float.Ieee.{is_nan}
use Rattle.ieee.specs.Units.{Number, nearest_float}
use Rattle.ieee.proofs.Finite.{finite_no_nan}
use Rattle.lists.proofs.Apart.{apart}
use Rattle.kinds.specs.Limits.{Width}
use Rattle.kinds.specs.Heard.{Refusal}
use Rattle.kinds.specs.Verdict.{Verdict}
use Rattle.kinds.specs.Verdict as verdicts
use Rattle.kinds.specs.Nearest.{Sum, Refused}
use Rattle.judge.specs.Judge.{judged, zero_sign}
use Rattle.judge.proofs.JudgeLaws.{list_when, list_refusal}
use Rattle.sums.specs.Sums.{sum_of, nearest_of, Summing}
use Rattle.sums.proofs.AnswerLaws.{nearest_good, nearest_refused}
use Rattle.sums.proofs.Promised.{nearest_promised, nearest_refusals}

pub nearest_refusal : (W : Width) (ps : List ℕ) (k p : ℕ) → nearest_of W ps ≡ Refused k p → Refusal W.length k p
nearest_refusal W ps k p e = list_refusal ((nearest_refusals W ps k p).0 e)

module _ {W : Width} (R : Summing W) (ps : List ℕ) {x : Float} (e : nearest_of W ps ≡ Sum x) where
  pub nearest_number : Number W.format x
  nearest_number = by (judged W true true ps) refl
    where
      by : (v : Verdict) → judged W true true ps ≡ v → Number W.format x
      by verdicts.Good g =
          let s : Sum (nearest_float W.format (zero_sign W ps) (sum_of W.format ps)) ≡ Sum x = sym (nearest_good W ps g) ∙ e in
          let y : nearest_float W.format (zero_sign W ps) (sum_of W.format ps) ≡ x = cc in
          subst (Number W.format) y (nearest_promised R ps ((list_when W true true ps verdicts.Good).0 g)).1.number
      by (verdicts.Refused k p) g =
          let s : Refused k p ≡ Sum x = sym (nearest_refused W ps k p g) ∙ e in
          apart (cc)

  pub nearest_no_nan : T (not (is_nan x))
  nearest_no_nan = finite_no_nan x nearest_number.fini
