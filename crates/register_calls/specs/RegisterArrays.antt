-- A register's words as C calls: what each returns, and what it leaves in every array that it is lent. Definitions only.
use Rattle.std.specs.Prelude.{cond, List, ℕ, eqb, length}
use Rattle.kinds.specs.Limits.{doubles}
use Rattle.kinds.specs.Outcome.{Outcome, outcome}
use Rattle.kinds.specs.Heard.{nearest_heard, entry_heard}
use Rattle.register.specs.Register.{Changed, added, withdrawn, rounded}
use Rattle.register.specs.Merge.{merged}
use Rattle.arrays.specs.Arrays.{code_of, values_of}

abbrev pub words_returned : Changed → Outcome ℕ ℕ
words_returned c = outcome (code_of (entry_heard c.answer)) c.area

abbrev pub add_arrays : List ℕ → ℕ → Outcome ℕ ℕ
add_arrays ws p = words_returned (added ws p)

abbrev pub withdraw_arrays : List ℕ → ℕ → Outcome ℕ ℕ
withdraw_arrays ws p = words_returned (withdrawn ws p)

abbrev pub merge_arrays : List ℕ → List ℕ → List ℕ → Outcome ℕ ℕ
merge_arrays us vs out = words_returned (merged us vs out)

unfoldable pub round_arrays : List ℕ → List ℕ → Outcome ℕ ℕ
round_arrays ws out =
    let h = nearest_heard doubles (rounded ws) in
    cond (eqb (length out) 1) (outcome (code_of h) (values_of h out)) (outcome 4 out)
