-- A list in lanes by the inner addition. Definitions only.
use Rattle.std.specs.Prelude.{List, [], ◌∷◌, true, ℕ, ℤ, ⊤, Result, Ok, Err}
use Rattle.kinds.specs.declared.refusal.Refusal.{Refusal}
use Rattle.kinds.specs.Refusals.{number}
use Rattle.kinds.specs.Limits.{doubles}
use Rattle.kinds.specs.Outcome.{Outcome, outcome}
use Rattle.kinds.specs.Verdict.{Verdict}
use Rattle.kinds.specs.Verdict as verdicts
use Rattle.judge.specs.Judge.{judged}
use Rattle.addend.specs.Addend.{units_of}
use Rattle.lanes.specs.Laid.{Laid}
use Rattle.lanes.specs.Laid as laids
use Rattle.lanes.specs.Lanes.{digits_of, plus_lanes, lane_added}

-- rule N3, number by number
unfoldable pub put_all : List ℤ → List ℕ → List ℤ
put_all zs [] = zs
put_all zs (p ∷ ps) = put_all (plus_lanes zs (digits_of (units_of doubles p))) ps

-- the lanes were looked at by a call, which gave an answer and left lanes
unfoldable pub after_look : Laid → List ℤ → List ℕ → Outcome ℕ ℤ
after_look (laids.Counted n) zs ps = outcome 0 (put_all zs ps)
after_look (laids.Refused k i) zs ps = outcome k zs

unfoldable pub after_judgement : Verdict → List ℤ → List ℕ → Outcome ℕ ℤ
after_judgement (verdicts.Refused k i) zs ps = outcome k zs
after_judgement verdicts.Good zs ps = after_look (lane_added zs 0 0).answer (lane_added zs 0 0).area ps

abbrev pub timed_lanes : List ℤ → List ℕ → Outcome ℕ ℤ
timed_lanes zs ps = after_judgement (judged doubles true true ps) zs ps

-- what is answered: 0, or a refusal's number
abbrev pub number_of : Result ⊤ Refusal → ℕ
number_of (Ok x) = 0
number_of (Err r) = number r
