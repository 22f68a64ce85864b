-- What the theorems of proofs/CodesLaws.antt speak of. Definitions only.
use Rattle.std.specs.Prelude.{ℕ}
use Rattle.kinds.specs.Outcome.{Outcome}
use Rattle.kinds.specs.Verdict as verdicts
use Rattle.judge.specs.Table as list-rows
use Rattle.arrays.specs.Arrays.{Returned}

-- ---- what is taken from a result
abbrev pub code_in : {X : Type 0} → Returned X → ℕ
code_in r = r.code

abbrev pub answer_in : Outcome ℕ ℕ → ℕ
answer_in o = o.answer
