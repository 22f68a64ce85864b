-- `words::columns::columns` meets its contract: at each turn the lowest i words are what is left of those that came in, but for a carry into the word i.
-- Assumes nothing.
use Rattle.words.specs.Ways.{Columned}
use Rattle.words.specs.Words.{word_bits}
use Rattle.words.proofs.columns.columns.Given as goal

abbrev pub invariant-loop-i : goal.invariant-loop-i
invariant-loop-i g l = Columned g.W.Way.adds word_bits l.a l.b l.out l.i l.carry
