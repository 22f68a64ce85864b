-- `lanes::pairs::write` meets its contract: at each turn the lowest i words are the first i pairs. Assumes nothing.
use Rattle.std.proofs.Common.{◌≡◌, map, take}
use Rattle.lists.specs.Digits.{residue}
use Rattle.lanes.specs.Lanes.{lane_bits}
use Rattle.lanes.specs.Settle.{pairs}
use Rattle.lanes.proofs.pairs.write.Given as goal

abbrev pub invariant-loop-i : goal.invariant-loop-i
invariant-loop-i l = take l.i l.words ≡ take l.i (pairs (map (residue lane_bits) l.lanes))
