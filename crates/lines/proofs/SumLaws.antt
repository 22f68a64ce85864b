-- The lines of a list, case by case, as its two sums are answered. Assumes nothing.
use Rattle.std.specs.Prelude.{◌≡◌, List, [], ◌++◌, ℕ, length, Float}
use Rattle.std.specs.Float.Ieee.{to_bits}
use Rattle.kinds.specs.Limits.{doubles}
use Rattle.kinds.specs.Heard.{place_of}
use Rattle.kinds.specs.State.{State}
use Rattle.kinds.specs.Step as steps
use Rattle.kinds.specs.Nearest as nearests
use Rattle.walk.specs.Walk.{faithful_of}
use Rattle.sums.specs.Sums.{nearest_of}
use Rattle.lines.specs.Lines.{count_line, faithful_line, nearest_line, refused_line, sum_lines, list_lines}

module _ (ps : List ℕ) (work : List Float) where
  pub lines_more : (s : State) (told : Float) → (faithful_of doubles ps work).answer ≡ steps.More s told → list_lines ps work ≡ []
  unfolding list_lines sum_lines
  lines_more s told e = rw e

  pub lines_refused : (k p : ℕ) → (faithful_of doubles ps work).answer ≡ steps.Refused k p → list_lines ps work ≡ refused_line k (place_of k p)
  unfolding list_lines sum_lines
  lines_refused k p e = rw e

  module _ (x : Float) (rounds : ℕ) (e : (faithful_of doubles ps work).answer ≡ steps.Done x rounds) where
    pub lines_near_refused : (k p : ℕ) → nearest_of doubles ps ≡ nearests.Refused k p → list_lines ps work ≡ refused_line k (place_of k p)
    unfolding list_lines sum_lines
    lines_near_refused k p f = rw (e, f)

    pub lines_three : (y : Float) → nearest_of doubles ps ≡ nearests.Sum y
        → list_lines ps work ≡ count_line (length ps) ++ faithful_line (to_bits doubles.format x) rounds ++ nearest_line (to_bits doubles.format y)
    unfolding list_lines sum_lines
    lines_three y f = rw (e, f)
