-- Rules S2 and S4 to S6, said of the definitions that the contracts of the nearest sum and the parts cite. Assumes nothing.
use Rattle.std.specs.Prelude.{◌↔◌, ◌≡◌, Bool, false, List, ℕ, zero, suc, ◌<◌, ℤ, nat_abs, ◌-ℤ◌, length, Float}
use Rattle.std.proofs.Math.Path.{refl}
use Rattle.std.proofs.Common.{sym, ap, ◌∙◌, lt_of_le_of_lt}
use Rattle.std.proofs.Math.Bool.{true}
use Rattle.std.specs.Float.{Format}
use Rattle.std.specs.Float.Ieee.{to_bits}
use Rattle.ieee.specs.Units.{value, nearest_float, limit}
use Rattle.ieee.specs.Accuracy.{NearestTo}
use Rattle.ieee.proofs.Nearest.{nearest_nearest}
use Rattle.kinds.specs.Limits.{Width}
use Rattle.kinds.specs.Outcome.{Outcome, outcome}
use Rattle.kinds.specs.Heard.{nearest_heard, nearest}
use Rattle.kinds.specs.Verdict.{Verdict}
use Rattle.kinds.specs.Verdict as verdicts
use Rattle.kinds.specs.Nearest.{Nearest}
use Rattle.kinds.specs.Parted.{Parted}
use Rattle.kinds.specs.Nearest as nearests
use Rattle.kinds.specs.Parted as parteds
use Rattle.judge.specs.Judge.{judged, zero_sign}
use Rattle.judge.specs.Table.{ListWhen}
use Rattle.judge.proofs.JudgeLaws.{list_when, list_passed, list_allowed}
use Rattle.sums.specs.Sums.{sum_of, nearest_after, nearest_of, parts, add_up, fitting, parts_of, parts_after, Summing}
use Rattle.sums.specs.NonOverlapping.{NonOverlapping}
use Rattle.sums.specs.PartsLaws.{left_smaller, parts_apart}
use Rattle.sums.proofs.SumLaws.{sum_below_limit}
use Rattle.sums.proofs.AnswerLaws.{nearest_good, nearest_refused, parts_refused}
use Rattle.sums.specs.Promised.{EachNearest}

pub parts_nearest : (f : Format) (k : ℕ) (z : Bool) (S : ℤ) → nat_abs S < limit f → EachNearest f S (parts f k z S)
unfolding parts
parts_nearest f zero z S l = tt
parts_nearest f (suc k) z S l = (
  nearest_nearest f z S l,
  parts_nearest f k false (S -ℤ value f (nearest_float f z S)) (lt_of_le_of_lt (left_smaller f z S l) l),
)

-- which verdict an answer comes from
abbrev nearest_verdict_lem : Nearest → Verdict
nearest_verdict_lem (nearests.Sum x) = verdicts.Good
nearest_verdict_lem (nearests.Refused k i) = verdicts.Refused k i

abbrev parts_verdict : Parted → Verdict
parts_verdict (parteds.Parts b) = verdicts.Good
parts_verdict (parteds.Refused k i) = verdicts.Refused k i

-- a refusal is given exactly when its row of the table says
module _ (W : Width) (ps : List ℕ) where
  nearest_from : (v : Verdict) → nearest_verdict_lem (nearest_after W v ps) ≡ v
  unfolding nearest_after
  nearest_from verdicts.Good = refl
  nearest_from (verdicts.Refused k i) = refl

  pub nearest_refusals : (k i : ℕ) → (nearest_of W ps ≡ nearests.Refused k i) ↔ ListWhen W true true ps (verdicts.Refused k i)
  nearest_refusals k i = (
    λ e. (list_when W true true ps (verdicts.Refused k i)).0 (sym (nearest_from (judged W true true ps)) ∙ ap nearest_verdict_lem e),
    λ G. nearest_refused W ps k i ((list_when W true true ps (verdicts.Refused k i)).1 G),
  )

  module _ (area : List Float) where
    parts_from : (v : Verdict) → parts_verdict (parts_after W v ps area).answer ≡ v
    unfolding parts_after
    parts_from verdicts.Good = refl
    parts_from (verdicts.Refused k i) = refl

    pub parts_refusals : (k i : ℕ)
        → (parts_of W ps area ≡ outcome (parteds.Refused k i) area) ↔ ListWhen W true (fitting W area) ps (verdicts.Refused k i)
    parts_refusals k i = (
      λ e. (list_when W true (fitting W area) ps (verdicts.Refused k i)).0 (
          sym (parts_from (judged W true (fitting W area) ps)) ∙ ap (λ (r : Outcome Parted Float). parts_verdict r.answer) e
          ),
      λ G. sym (parts_refused W ps area k i ((list_when W true (fitting W area) ps (verdicts.Refused k i)).1 G)),
    )

-- ---- what is answered otherwise. The sum of an allowed list is below its format's limit.
module _ {W : Width} (R : Summing W) (ps : List ℕ) where
  abbrev S : ℤ
  S = sum_of W.format ps

  module _ (G : ListWhen W true true ps verdicts.Good) where
    -- rule S2, for every list that isn't refused
    pub nearest_promised : let x = nearest_float W.format (zero_sign W ps) S in
        (nearest_heard W (nearest_of W ps) ≡ nearest (to_bits W.format x)) × NearestTo W.format S x
    nearest_promised = (
      ap (nearest_heard W) (nearest_good W ps ((list_when W true true ps verdicts.Good).1 G)),
      nearest_nearest W.format (zero_sign W ps) S (sum_below_limit R (list_passed G).few (list_allowed G)),
    )

  module _ (area : List Float) where
    -- what an accepted call leaves
    abbrev left : List Float
    left = parts W.format (length area) (zero_sign W ps) S

    pub parts_promised : ListWhen W true (fitting W area) ps verdicts.Good
        → (parts_of W ps area ≡ outcome (parteds.Parts (add_up W.format left S)) left)
        × EachNearest W.format S left × NonOverlapping W.format left
    unfolding parts_after
    parts_promised G =
        let l = sum_below_limit R (list_passed G).few (list_allowed G) in (
          rw ((list_when W true (fitting W area) ps verdicts.Good).1 G),
          parts_nearest W.format (length area) (zero_sign W ps) S l,
          parts_apart W.format (length area) (zero_sign W ps) S l,
        )
