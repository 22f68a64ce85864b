-- `sheet::copy` meets its contract: the places passed hold the sheet's patterns, and the others what they held. Assumes nothing.
use Rattle.std.proofs.Common.{◌≡◌, ◌++◌, drop}
use Rattle.sheet.specs.Sheet.{patterns_of}
use Rattle.sheet.proofs.copy.Given as goal

abbrev pub invariant-loop-i : goal.invariant-loop-i
invariant-loop-i l = l.area ≡ patterns_of l.i (drop 5 l.sheet) ++ drop l.i l.initial.area
