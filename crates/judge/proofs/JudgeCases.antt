-- What a list is refused for, case by case. Assumes nothing.
use Rattle.std.specs.Prelude.{◌≡◌, Bool, not, List, ℕ, ◌≤◌, ◌<◌, T, length}
use Rattle.std.proofs.Common.{lt-ltb, le-ltb}
use Rattle.std.specs.Float.Ieee.Bits.{is_true, is_false}
use Rattle.kinds.specs.Limits.{Width}
use Rattle.kinds.specs.Verdict.{Refused}
use Rattle.judge.specs.Judge.{first_fault, judged}
use Rattle.judge.specs.Table.{Passed}

module _ (W : Width) (area parts : Bool) (ps : List ℕ) where
  pub judged_1 : W.length < length ps → judged W area parts ps ≡ Refused 1 0
  unfolding judged
  judged_1 h = rw (lt-ltb W.length (length ps) h)

  pub judged_4 : length ps ≤ W.length → T (not area) → judged W area parts ps ≡ Refused 4 0
  unfolding judged
  judged_4 h a = rw (le-ltb W.length (length ps) h, is_false area a)

  pub judged_5 : length ps ≤ W.length → T area → T (not parts) → judged W area parts ps ≡ Refused 5 0
  unfolding judged
  judged_5 h a b = rw (le-ltb W.length (length ps) h, is_true area a, is_false parts b)

  pub judged_passed : Passed W area parts ps → judged W area parts ps ≡ first_fault W ps 0
  unfolding judged
  judged_passed P = rw (le-ltb W.length (length ps) P.few, is_true area P.right_area, is_true parts P.right_parts)
