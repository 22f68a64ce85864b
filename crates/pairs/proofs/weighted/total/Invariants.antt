-- `pairs::weighted::total` meets its contract: after i pairs the words are those of the start and the sum of the numbers of the first i. Assumes nothing.
use mathlib.Core.Path.{◌≡◌}
use mathlib.Core.List.{zip}
use lib.IntN.{◌+ℤ◌}
use lib.ListN.{length}
use Rattle.words.specs.Words.{word_count, whole_of, words_of}
use Rattle.pairs.specs.TotalLaws.{sum_to}
use Rattle.pairs.proofs.weighted.total.Given as goal

abbrev pub invariant-loop-p : goal.invariant-loop-p
invariant-loop-p l = (length l.words ≡ word_count) × (l.words ≡ words_of (whole_of l.initial.words +ℤ sum_to (zip l.fn.a l.fn.b) (length l.yielded)))
