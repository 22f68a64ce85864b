-- `nearest::head::used` meets its contract. The loop's invariant: the words from the k-th on are zero. Assumes nothing.
use Rattle.std.proofs.Common.{◌≡◌, take}
use Rattle.lists.specs.Digits.{number}
use Rattle.words.specs.Words.{word_bits}
use Rattle.nearest.proofs.head.used.Given as goal

abbrev pub invariant-loop-k : goal.invariant-loop-k
invariant-loop-k l = number word_bits (take l.n l.words) ≡ number word_bits (take l.k l.words)
