-- `pairs::faults::first_fault` meets its contract: the pairs passed have no fault, so the first that has one is the lowest. Assumes nothing.
use Rattle.pairs.specs.Limits.{double_pairs}
use Rattle.pairs.specs.Table.{CleanPairs}
use Rattle.pairs.proofs.faults.first_fault.Given as goal

abbrev pub invariant-loop-place : goal.invariant-loop-place
invariant-loop-place l = CleanPairs double_pairs l.a l.b l.place
