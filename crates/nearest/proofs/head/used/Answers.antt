-- `nearest::head::used` meets its contract. The loop's invariant: the words from the k-th on are zero. Assumes nothing.
use Rattle.std.proofs.Common.{◌∙◌, arith}
use Rattle.lists.specs.LeadingDigits.{number_skip}
use Rattle.words.specs.Words.{word_bits}
use Rattle.nearest.proofs.head.used.Goals as goal

pub loop-k-preserved : goal.loop-k-preserved
loop-k-preserved c = c.loop-k.invariant ∙ number_skip word_bits c.args.words.now {k = c.loop-k.k} (omega arith) (omega arith) (omega arith)
