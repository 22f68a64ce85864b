-- `words::ripple::up` meets its contract: at each turn the words and the carry are what came in, but for a carry into the word i.
-- Assumes nothing.
use Rattle.std.proofs.Common.{◌*◌, ◌^◌}
use Rattle.words.specs.Ways.{Gone}
use Rattle.words.specs.Words.{word_bits}
use Rattle.words.proofs.ripple.up.Given as goal

abbrev pub invariant-loop-i : goal.invariant-loop-i
invariant-loop-i g l = Gone g.W.Way.adds word_bits l.initial.words (l.carry * 2 ^ (word_bits * l.from)) l.words l.i l.c
