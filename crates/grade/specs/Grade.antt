-- The grade of a claimed sum, and what the call refuses. Definitions only.
use Rattle.std.specs.Prelude.{true, false, cond, List, ℕ, ◌+◌, ◌-◌, ltb, eqb, ℤ, ◌-ℤ◌, nat_abs, Float}
use Rattle.std.specs.Float.{Format}
use Rattle.std.specs.Float.Ieee.{of_bits, to_bits}
use Rattle.std.specs.Float.Ieee.Scale.{finite}
use Rattle.ieee.specs.Units.{magnitude, value, nearest_float}
use Rattle.kinds.specs.Limits.{Width}
use Rattle.kinds.specs.Heard.{Heard, refused, count, place_of}
use Rattle.kinds.specs.Verdict.{Verdict}
use Rattle.kinds.specs.Verdict as verdicts
use Rattle.judge.specs.Judge.{judged}
use Rattle.sums.specs.Sums.{sum_of}
use Rattle.grade.specs.Graded.{Graded}
use Rattle.grade.specs.Graded.{Exact, Nearest, Faithful, Wrong, Refused}

-- the double nearest to S, and the pattern of the one on the other side of S: the next pattern away from zero where the nearest falls short of S, and the next
-- one towards zero where it doesn't
abbrev pub near : Format → ℤ → Float
near f S = nearest_float f false S

unfoldable pub other_side : Format → ℤ → ℕ
other_side f S = cond (ltb (magnitude f (near f S)) (nat_abs S)) (to_bits f (near f S) + 1) (to_bits f (near f S) - 1)

-- the grade of the claim x, rules Q2 to Q5: exact; else wrong where S is a double; else nearest, faithful or wrong
unfoldable pub grade_at : Format → ℤ → Float → Graded
grade_at f S x =
    cond (eqb (nat_abs (value f x -ℤ S)) 0) Exact
    (cond (eqb (nat_abs (value f (near f S) -ℤ S)) 0) Wrong
    (cond (eqb (to_bits f x) (to_bits f (near f S))) Nearest
    (cond (eqb (to_bits f x) (other_side f S)) Faithful
    Wrong)))

-- rule O10: 1, then 2 or 3 as for any list; 20
unfoldable pub graded_after : Width → Verdict → List ℕ → ℕ → Graded
graded_after W verdicts.Good ps c =
    let x = of_bits W.format c in
    cond (finite x) (grade_at W.format (sum_of W.format ps) x) (Refused 20 0)
graded_after W (verdicts.Refused k i) ps c = Refused k i

abbrev pub grade_of : Width → List ℕ → ℕ → Graded
grade_of W ps c = graded_after W (judged W true true ps) ps c

-- what a caller hears: a grade as its number, 0 for the best
abbrev pub graded_heard : Graded → Heard
graded_heard Exact = count 0
graded_heard Nearest = count 1
graded_heard Faithful = count 2
graded_heard Wrong = count 3
graded_heard (Refused k i) = refused k (place_of k i)
