-- `nearest::magnitude::negate` meets its contract. The loop's invariant: the words so far, the register's and the carry add up to a power of two.
-- Assumes nothing.
use Rattle.lists.specs.Magnitude.{Negated}
use Rattle.words.specs.Words.{word_bits}
use Rattle.nearest.proofs.magnitude.negate.Given as goal

abbrev pub invariant-loop-i : goal.invariant-loop-i
invariant-loop-i l = Negated word_bits l.register l.words l.i l.carry
