-- The sums of a list in one call, as C calls: what each returns, and what it leaves in every array that it is lent. Definitions only.
use Rattle.std.specs.Prelude.{cond, List, ℕ, eqb, Float, length}
use Rattle.kinds.specs.Limits.{Width, doubles, singles}
use Rattle.kinds.specs.Outcome.{Outcome, outcome}
use Rattle.kinds.specs.Heard.{step_heard, nearest_heard}
use Rattle.walk.specs.Walk.{faithful_of}
use Rattle.sums.specs.Sums.{nearest_of}
use Rattle.arrays.specs.Arrays.{code_of, values_of, Returned, returned, too_many_of}

-- of any width
unfoldable pub faithful_with : Width → List ℕ → List Float → List ℕ → Returned Float
faithful_with W ps work out =
    let w = faithful_of W ps work in
    let h = step_heard W w.answer in
    cond (eqb (length out) 2) (returned (code_of h) w.area (values_of h out)) (returned (too_many_of W ps) work out)

unfoldable pub nearest_with : Width → List ℕ → List ℕ → Outcome ℕ ℕ
nearest_with W ps out =
    let h = nearest_heard W (nearest_of W ps) in
    cond (eqb (length out) 1) (outcome (code_of h) (values_of h out)) (outcome (too_many_of W ps) out)

-- ---- the calls
abbrev pub faithful_arrays : List ℕ → List Float → List ℕ → Returned Float
faithful_arrays = faithful_with doubles

abbrev pub nearest_arrays : List ℕ → List ℕ → Outcome ℕ ℕ
nearest_arrays = nearest_with doubles

abbrev pub faithful_singles : List ℕ → List Float → List ℕ → Returned Float
faithful_singles = faithful_with singles

abbrev pub nearest_singles : List ℕ → List ℕ → Outcome ℕ ℕ
nearest_singles = nearest_with singles
