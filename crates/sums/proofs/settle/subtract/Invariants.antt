-- `sums::settle::subtract` meets its contract: at each turn the words below the place i are the difference of the two sides so far, but for what is carried
-- into the lanes there and borrowed from them. Assumes nothing.
use mathlib.Core.Path.{◌≡◌}
use Prim.Native.Nat.{◌≤◌}
use lib.ListN.{length}
use Rattle.words.specs.Words.{word_count}
use Rattle.sums.specs.SignLanes.{most_carry}
use Rattle.sums.specs.SettleLaws.{SettledTo}
use Rattle.sums.proofs.settle.subtract.Given as goal

abbrev pub invariant-loop-i : goal.invariant-loop-i
invariant-loop-i l =
    (length l.words ≡ word_count) × (l.plus ≤ most_carry) × (l.minus ≤ most_carry) × SettledTo l.low l.above l.words l.i l.plus l.minus l.borrow
