-- Rule C9, the C calls on the caller's own arrays: what every one of them returns, and the values that it writes. Definitions only; each call's own stands in
-- its family's crate.
use Rattle.std.specs.Prelude.{cond, List, [], ◌∷◌, ℕ, ◌+◌, ltb, length}
use Rattle.kinds.specs.Limits.{Width, doubles, singles}
use Rattle.kinds.specs.Heard.{Heard, refused, more, done, nearest, parts, accepted, count, rescued}
use Rattle.calls.specs.Calls.{place_code}

-- ---- what is returned: 0, or a refusal's code
abbrev pub code_of : Heard → ℕ
code_of (refused k p) = k + place_code p
code_of (more sigma t tau n pending rounds ensemble largest told) = 0
code_of (done x rounds) = 0
code_of (nearest x) = 0
code_of (parts b) = 0
code_of accepted = 0
code_of (count n) = 0
code_of (rescued written taken missing over) = 0

-- ---- rule C10: the values that an accepted call writes to its array of numbers; a refused one leaves it
abbrev pub values_of : Heard → List ℕ → List ℕ
values_of (refused k p) before = before
values_of (more sigma t tau n pending rounds ensemble largest told) before = before
values_of (done x rounds) before = x ∷ rounds ∷ []
values_of (nearest x) before = x ∷ []
values_of (parts b) before = cond b 1 0 ∷ []
values_of accepted before = before
values_of (count n) before = n ∷ []
values_of (rescued written taken missing over) before = written ∷ taken ∷ missing ∷ over ∷ []

-- ---- what is returned, the lent area and the values afterwards
pub record Returned (X : Type 0) : Type 0 where
  pub code : ℕ
  pub area : List X
  pub values : List ℕ

abbrev pub returned : {X : Type 0} → ℕ → List X → List ℕ → Returned X
returned c xs vs = record { code = c; area = xs; values = vs }

-- where the array of values has another length: 4, and 1 before it
abbrev pub too_many_of : Width → List ℕ → ℕ
too_many_of W ps = cond (ltb W.length (length ps)) 1 4

abbrev pub too_many_or_4 : List ℕ → ℕ
too_many_or_4 = too_many_of doubles

abbrev pub too_many_singles : List ℕ → ℕ
too_many_singles = too_many_of singles
