-- `sums::short::gather` meets its contract: after i numbers the words are the two sides of the first i. Assumes nothing.
use mathlib.Core.Path.{◌≡◌}
use Prim.Native.Nat.{◌+◌}
use lib.ListN.{length, take}
use Rattle.kinds.specs.Limits.{doubles}
use Rattle.lists.specs.Digits.{number, Digits}
use Rattle.words.specs.Words.{word_bits, word_count}
use Rattle.addend.specs.Sides.{side_by_side}
use Rattle.sums.specs.ListSides.{list_sides}
use Rattle.sums.proofs.short.gather.Given as goal

abbrev pub invariant-loop-p : goal.invariant-loop-p
invariant-loop-p l =
    (length l.both ≡ word_count + word_count) × (number word_bits l.both ≡ side_by_side (list_sides doubles (take l.p-index l.fn.list)))
    × Digits word_bits l.both
