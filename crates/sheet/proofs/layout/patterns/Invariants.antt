-- `sheet::layout::patterns` meets its contract: behind the five bytes of a header stand the first i patterns' bytes. Assumes nothing.
use Rattle.std.proofs.Common.{◌≡◌, ◌++◌, ◌+◌, ◌*◌, take, drop}
use Rattle.sheet.specs.Sheet.{body}
use Rattle.sheet.proofs.layout.patterns.Given as goal

abbrev pub invariant-loop-i : goal.invariant-loop-i
invariant-loop-i l = l.sheet ≡ take 5 l.initial.sheet ++ (body (take l.i l.list) ++ drop (5 + 8 * l.i) l.initial.sheet)
