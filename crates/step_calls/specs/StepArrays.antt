-- The walk by blocks as C calls: what an opening and a step return, and what they leave in every array that they are lent. Definitions only.
use Rattle.std.specs.Prelude.{cond, List, [], ◌∷◌, ℕ, ◌-◌, ◌*◌, leb, eqb, Float, length, get_or, replicate}
use Rattle.std.specs.Float.{nan, Format}
use Rattle.std.specs.Float.Ieee.{top, of_bits}
use Rattle.kinds.specs.Limits.{Width, doubles, singles}
use Rattle.kinds.specs.States.{state_of}
use Rattle.kinds.specs.Heard.{Heard, refused, more, done, nearest, parts, accepted, count, rescued, step_heard}
use Rattle.kinds.specs.State.{State}
use Rattle.walk.specs.Walk.{Walked, opened, stepped}
use Rattle.arrays.specs.Arrays.{code_of, Returned, returned, too_many_of}

-- rule C11, a walk in ten numbers: 1, the state's eight, and the largest remainder that is told; or 2, the sum's pattern, its rounds, and zeros
abbrev pub walk_numbers : ℕ
walk_numbers = 10

abbrev pub walk_values : Heard → List ℕ → List ℕ
walk_values (refused k p) before = before
walk_values (more sigma t tau n pending rounds ensemble largest told) before =
    1 ∷ sigma ∷ t ∷ tau ∷ n ∷ pending ∷ rounds ∷ ensemble ∷ largest ∷ told ∷ []
walk_values (done x rounds) before = 2 ∷ x ∷ rounds ∷ replicate 7 0
walk_values (nearest x) before = before
walk_values (parts b) before = before
walk_values accepted before = before
walk_values (count n) before = before
walk_values (rescued written taken missing over) before = before

-- the state that a step reads: the second number to the ninth. A number above the format's patterns is none of them, and is read as a NaN
abbrev pub float_at : Format → ℕ → Float
float_at f p = cond (leb p (2 * top f - 1)) (of_bits f p) nan

abbrev pub float_in : Width → List ℕ → ℕ → Float
float_in W numbers i = float_at W.format (get_or numbers i 0)

abbrev pub state_in : Width → List ℕ → State
state_in W numbers =
    state_of (get_or numbers 4 0) (float_in W numbers 1) (float_in W numbers 2) (float_in W numbers 3) (get_or numbers 5 0) (get_or numbers 6 0)
    (get_or numbers 7 0)
    (float_in W numbers 8)

-- ---- of any width
abbrev pub walk_returned : Width → Walked → List ℕ → Returned Float
walk_returned W w numbers = returned (code_of (step_heard W w.answer)) w.area (walk_values (step_heard W w.answer) numbers)

unfoldable pub open_with : Width → ℕ → List ℕ → List Float → List ℕ → Returned Float
open_with W k ps work numbers =
    cond (eqb (length numbers) walk_numbers) (walk_returned W (opened W k ps work) numbers) (returned (too_many_of W ps) work numbers)

unfoldable pub step_with : Width → List ℕ → List Float → ℕ → ℕ → Returned Float
step_with W numbers work k b =
    cond (eqb (length numbers) walk_numbers) (walk_returned W (stepped W (state_in W numbers) k b work) numbers) (returned 4 work numbers)

-- ---- the calls
abbrev pub open_arrays : ℕ → List ℕ → List Float → List ℕ → Returned Float
open_arrays = open_with doubles

abbrev pub step_arrays : List ℕ → List Float → ℕ → ℕ → Returned Float
step_arrays = step_with doubles

-- rule Y6
abbrev pub open_singles : ℕ → List ℕ → List Float → List ℕ → Returned Float
open_singles = open_with singles

abbrev pub step_singles : List ℕ → List Float → ℕ → ℕ → Returned Float
step_singles = step_with singles
