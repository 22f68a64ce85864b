-- `rescue::entries::write_marks` meets its contract: the places passed hold the marks of their entries, and the others what they held. Assumes nothing.
use Rattle.std.proofs.Common.{◌≡◌, ◌++◌, map, take, drop}
use Rattle.kinds.specs.Limits.{doubles}
use Rattle.sheet.specs.Sheet.{patterns_of}
use Rattle.rescue.specs.Rescue.{mark_of}
use Rattle.rescue.proofs.entries.write_marks.Given as goal

abbrev pub invariant-loop-i : goal.invariant-loop-i
invariant-loop-i l =
    l.marks ≡ map (mark_of doubles) (take l.i (patterns_of l.n (drop 5 l.damaged))) ++ drop l.i l.initial.marks
