-- Handing on the weight of a clock that leaves: what a weight is, the new weights to the last grain, and what the call refuses. Definitions only.
use Rattle.std.specs.Prelude.{Bool, true, false, cond, not, ◌&&◌, List, [], ◌∷◌, map, ℕ, zero, suc, ◌+◌, ◌-◌, ◌*◌, ◌/◌, ◌%◌, ◌^◌, leb, ltb, eqb, pos, length}
use Rattle.std.specs.Prelude.{get_or, set}
use Rattle.std.specs.Float.{Format}
use Rattle.std.specs.Float.Ieee.{low, of_bits, to_bits}
use Rattle.std.specs.Float.Ieee.Scale.{finite}
use Rattle.ieee.specs.Units.{negative, magnitude, nearest_float}
use Rattle.kinds.specs.Limits.{Width}
use Rattle.kinds.specs.Heard.{Heard, refused, accepted, place_of}
use Rattle.kinds.specs.Outcome.{Outcome, outcome}
use Rattle.kinds.specs.Verdict.{Verdict}
use Rattle.kinds.specs.Verdict as verdicts
use Rattle.judge.specs.Judge.{judged}
use Rattle.weights.specs.Handed.{Handed}
use Rattle.weights.specs.Handed.{Shared, Refused}

-- ---- rule V1: 1 in grains, a grain of 2^-30 in units, and 1 in units
abbrev pub grains : ℕ
grains = 2 ^ 30

abbrev pub grain : Format → ℕ
grain f = 2 ^ (low f - 30)

abbrev pub whole_weight : Format → ℕ
whole_weight f = 2 ^ low f

-- from 0 to 1, a whole number of grains, and not -0
unfoldable pub weight_good : Width → ℕ → Bool
weight_good W p =
    let f = W.format in
    let x = of_bits f p in
    finite x && not (negative x) && leb (magnitude f x) (whole_weight f) && eqb (magnitude f x % grain f) 0

-- a weight in grains, and the pattern of so many grains
unfoldable pub weight_of : Width → ℕ → ℕ
weight_of W p = magnitude W.format (of_bits W.format p) / grain W.format

unfoldable pub pattern_for : Width → ℕ → ℕ
pattern_for W k = to_bits W.format (nearest_float W.format false (pos (k * grain W.format)))

-- ---- rule V2
unfoldable pub total : List ℕ → ℕ
total [] = 0
total (k ∷ ks) = k + total ks

-- ---- rule V3: what a clock of k grains gains, where the leaver had w
abbrev pub share : ℕ → ℕ → ℕ
share w k = w * k / (grains - w)

-- the weights of those who stay, each at its place. Rule V5: the leaver's is 0 from here on, so that it gains nothing either
abbrev pub staying : ℕ → List ℕ → List ℕ
staying at ks = set ks at 0

-- ---- rule V4: what the shares leave of w; what a clock of k grains gets where so many are left; and the new weights from the lowest place up
abbrev pub left_over : ℕ → List ℕ → ℕ
left_over w ks = w - total (map (share w) ks)

abbrev pub gets : ℕ → ℕ → ℕ
gets zero k = 0
gets (suc left) zero = 0
gets (suc left) (suc k) = 1

unfoldable pub spread : ℕ → ℕ → List ℕ → List ℕ
spread w left [] = []
spread w left (k ∷ ks) = (k + share w k + gets left k) ∷ spread w (left - gets left k) ks

-- the new weights: rules V3 to V5
abbrev pub handed : ℕ → List ℕ → List ℕ
handed at ks =
    let w = get_or ks at 0 in
    let stay = staying at ks in
    spread w (left_over w stay) stay

-- ---- rule O7: 1, 4, then 2 or 3 as for any list; the place of the first pattern that is no weight, or the length where each is one; 15; 16; 17
unfoldable pub bad_weight : Width → List ℕ → ℕ
bad_weight W [] = 0
bad_weight W (p ∷ ps) = cond (weight_good W p) (bad_weight W ps + 1) 0

abbrev pub weights_of : Width → List ℕ → List ℕ
weights_of W ps = map (weight_of W) ps

unfoldable pub weighed : Width → List ℕ → ℕ → Verdict
weighed W ps at =
    cond (ltb (bad_weight W ps) (length ps)) (verdicts.Refused 14 (bad_weight W ps))
    (cond (not (eqb (total (weights_of W ps)) grains)) (verdicts.Refused 15 0)
    (cond (leb (length ps) at) (verdicts.Refused 16 0)
    (cond (eqb (total (staying at (weights_of W ps))) 0) (verdicts.Refused 17 0)
    verdicts.Good)))

-- the first of two verdicts that refuses. Rule A2: the area has the list's length
abbrev pub and_then : Verdict → Verdict → Verdict
and_then verdicts.Good v = v
and_then (verdicts.Refused k i) v = verdicts.Refused k i

abbrev pub verdict_of : Width → List ℕ → ℕ → List ℕ → Verdict
verdict_of W ps at area = and_then (judged W (eqb (length area) (length ps)) true ps) (weighed W ps at)

-- ---- the answer, and the area afterwards
unfoldable pub handed_after : Width → Verdict → List ℕ → ℕ → List ℕ → Outcome Handed ℕ
handed_after W verdicts.Good ps at area = outcome Shared (map (pattern_for W) (handed at (weights_of W ps)))
handed_after W (verdicts.Refused k i) ps at area = outcome (Refused k i) area

abbrev pub handed_of : Width → List ℕ → ℕ → List ℕ → Outcome Handed ℕ
handed_of W ps at area = handed_after W (verdict_of W ps at area) ps at area

-- what a caller hears
abbrev pub handed_heard : Handed → Heard
handed_heard Shared = accepted
handed_heard (Refused k i) = refused k (place_of k i)
