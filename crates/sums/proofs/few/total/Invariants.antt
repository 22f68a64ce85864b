-- `sums::few::total` meets its contract: after i numbers the words are those of the start and the sum of the first i. Assumes nothing.
use mathlib.Core.Path.{◌≡◌}
use lib.IntN.{◌+ℤ◌}
use lib.ListN.{length, take}
use Rattle.words.specs.Words.{word_count, whole_of, words_of}
use Rattle.sums.specs.Sums.{sum_of}
use Rattle.sums.proofs.few.total.Given as goal

abbrev pub invariant-loop-p : goal.invariant-loop-p
invariant-loop-p g l =
    (length l.words ≡ word_count)
    × (l.words ≡ words_of (whole_of l.initial.words +ℤ sum_of g.F.Floating.width.format (take l.p-index (g.F.Floating.patterns l.fn.list))))
