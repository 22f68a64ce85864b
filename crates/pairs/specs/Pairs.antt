-- The product of a pair and its error, the list of both, the nearest weighted sum, and what the calls refuse. Definitions only. They say what the numbers are,
-- and nothing of how they are found.
use Rattle.std.specs.Prelude.{Bool, true, false, cond, not, ◌&&◌, ◌||◌, ℕ, ◌*◌, ◌^◌, leb, ltb, eqb, ℤ, pos, ◌-ℤ◌, ◌*ℤ◌, nat_abs, length, Float}
use mathlib.Core.List.{List, [], ◌∷◌, map, zip}
use Rattle.std.specs.Float.{Format}
use Rattle.std.specs.Float.Ieee.{low, round, of_bits, to_bits}
use Rattle.std.specs.Float.Ieee.Scale.{finite}
use Rattle.units.specs.Whole.{exact_sum}
use Rattle.ieee.specs.Units.{sign_of, value}
use Rattle.kinds.specs.Outcome.{Outcome, outcome}
use Rattle.kinds.specs.Heard.{Heard, refused, accepted, place_of}
use Rattle.kinds.specs.Verdict.{Verdict}
use Rattle.kinds.specs.Verdict as verdicts
use Rattle.kinds.specs.Nearest.{Nearest}
use Rattle.kinds.specs.Nearest as nearests
use Rattle.judge.specs.Judge.{first_bad}
use Rattle.judge.specs.Table.{size_of}
use Rattle.pairs.specs.Limits.{Pairing}
use Rattle.pairs.specs.Paired.{Paired}
use Rattle.pairs.specs.Paired.{Multiplied, Refused}

-- rule M1: the patterns of two factors
abbrev pub Pair : Type 0
Pair = ℕ × ℕ

-- ---- the numbers
-- the exact product of a pair. Factors are whole units of 2 ^ -low, so it is a whole number of units of 2 ^ -low · 2 ^ -low
abbrev pub exact_product : Format → Pair → ℤ
exact_product f c = value f (of_bits f c.0) *ℤ value f (of_bits f c.1)

-- the float nearest to T such units, a tie to the even significand: lib.Ieee's own rounding of T / (2 ^ low · 2 ^ low). Rule M6: a zero is +0
unfoldable pub nearest_product : Format → ℤ → Float
unfolding round
nearest_product f T = round f (sign_of false T) (nat_abs T) (2 ^ low f * 2 ^ low f)

-- rule M4
abbrev pub product_of : Format → Pair → Float
product_of f c = nearest_product f (exact_product f c)

-- rule M5: the exact product less that
abbrev pub error_of : Format → Pair → Float
error_of f c = nearest_product f (exact_product f c -ℤ pos (2 ^ low f) *ℤ value f (product_of f c))

-- rule M7: the list of both
unfoldable pub products_of : Format → List Pair → List ℕ
products_of f [] = []
products_of f (c ∷ cs) = to_bits f (product_of f c) ∷ to_bits f (error_of f c) ∷ products_of f cs

-- the exact sum of the products, in units of 2 ^ -low · 2 ^ -low
abbrev pub weighted_sum : Format → List Pair → ℤ
weighted_sum f cs = exact_sum (map (exact_product f) cs)

-- ---- what is refused
-- rule M2, of a finite number
abbrev pub in_range : Pairing → ℕ → Bool
in_range P p =
    let W = P.width in
    eqb (size_of W p) 0 || (leb (size_of W P.least) (size_of W p) && leb (size_of W p) (size_of W P.most))

-- rules R2 and R23: 2 where a factor isn't finite, else 23 where one is out of range, whatever the other is, 0 where both are allowed
unfoldable pub pair_fault : Pairing → Pair → ℕ
pair_fault P c =
    let f = P.width.format in
    cond (finite (of_bits f c.0) && finite (of_bits f c.1)) (cond (in_range P c.0 && in_range P c.1) 0 23) 2

-- rule O12, with rules R1, R22 and R4: area says whether the lent area has the right length
unfoldable pub pairs_judged : Pairing → Bool → List ℕ → List ℕ → Verdict
pairs_judged P area ps qs =
    cond (ltb P.length (length ps) || ltb P.length (length qs)) (verdicts.Refused 1 0)
    (cond (not (eqb (length ps) (length qs))) (verdicts.Refused 22 0)
    (cond (not area) (verdicts.Refused 4 0)
    (first_bad (pair_fault P) (zip ps qs) 0)))

-- ---- the answers, and the area afterwards
-- rule A2: the area has two places for each pair
abbrev pub two_each : List ℕ → List ℕ → Bool
two_each ps area = eqb (length area) (2 * length ps)

unfoldable pub multiplied_after : Pairing → Verdict → List ℕ → List ℕ → List ℕ → Outcome Paired ℕ
multiplied_after P verdicts.Good ps qs area = outcome Multiplied (products_of P.width.format (zip ps qs))
multiplied_after P (verdicts.Refused k i) ps qs area = outcome (Refused k i) area

abbrev pub multiplied_of : Pairing → List ℕ → List ℕ → List ℕ → Outcome Paired ℕ
multiplied_of P ps qs area = multiplied_after P (pairs_judged P (two_each ps area) ps qs) ps qs area

-- rule M9
unfoldable pub weighted_after : Pairing → Verdict → List ℕ → List ℕ → Nearest
weighted_after P verdicts.Good ps qs = nearests.Sum (nearest_product P.width.format (weighted_sum P.width.format (zip ps qs)))
weighted_after P (verdicts.Refused k i) ps qs = nearests.Refused k i

abbrev pub weighted_of : Pairing → List ℕ → List ℕ → Nearest
weighted_of P ps qs = weighted_after P (pairs_judged P true ps qs) ps qs

-- what a caller hears
abbrev pub paired_heard : Paired → Heard
paired_heard Multiplied = accepted
paired_heard (Refused k i) = refused k (place_of k i)
