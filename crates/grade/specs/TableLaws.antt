-- What the theorems of proofs/TableLaws.antt speak of. Definitions only.
use Rattle.std.specs.Prelude.{true, List, ℕ}
use Rattle.kinds.specs.Limits.{Width}
use Rattle.kinds.specs.Verdict as verdicts
use Rattle.judge.specs.Table as lists
use Rattle.judge.specs.Table.{ListWhen}
use Rattle.sums.specs.Sums.{sum_of}
use Rattle.grade.specs.Table as table
use Rattle.grade.specs.SideLaws.{Inside}
use Rattle.grade.specs.Graded.{Graded}
use Rattle.grade.specs.Graded.{Exact, Nearest, Faithful, Wrong, Refused}

-- no exact sum of the width's allowed lists is beyond the largest number of its format
pub record Roomy (W : Width) : Type 0 where
  pub inside : (ps : List ℕ) → ListWhen W true true ps verdicts.Good → Inside W.format (sum_of W.format ps)

-- ---- what is heard
-- a grade is no refusal
abbrev pub IsGrade : Graded → Type 0
IsGrade Exact = Unit {0}
IsGrade Nearest = Unit {0}
IsGrade Faithful = Unit {0}
IsGrade Wrong = Unit {0}
IsGrade (Refused k i) = ⊥
