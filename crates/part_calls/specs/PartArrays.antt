-- The sum of a list in parts, as a C call: what it returns, and what it leaves in every array that it is lent. Definitions only.
use Rattle.std.specs.Prelude.{cond, List, ℕ, eqb, Float, length}
use Rattle.kinds.specs.Limits.{doubles}
use Rattle.kinds.specs.Heard.{parted_heard}
use Rattle.sums.specs.Sums.{parts_of}
use Rattle.arrays.specs.Arrays.{code_of, values_of, Returned, returned, too_many_or_4}

unfoldable pub parts_arrays : List ℕ → List Float → List ℕ → Returned Float
parts_arrays ps area out =
    let s = parts_of doubles ps area in
    cond (eqb (length out) 1) (returned (code_of (parted_heard s.answer)) s.area (values_of (parted_heard s.answer) out))
    (returned (too_many_or_4 ps) area out)
