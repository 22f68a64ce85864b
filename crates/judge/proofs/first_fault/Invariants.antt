-- `judge::first_fault` meets its contract: the places passed have no fault, so the first that has one is the lowest. Assumes nothing.
use Rattle.judge.specs.Table.{Clean}
use Rattle.judge.proofs.first_fault.Given as goal

abbrev pub invariant-loop-place : goal.invariant-loop-place
invariant-loop-place g l = Clean g.F.Floating.width (g.F.Floating.patterns l.list) l.place
