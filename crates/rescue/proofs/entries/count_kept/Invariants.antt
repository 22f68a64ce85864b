-- `rescue::entries::count_kept` meets its contract: of the entries passed, so many are kept. Assumes nothing.
use Rattle.std.proofs.Common.{◌≤◌, drop}
use Rattle.lists.specs.Filter.{Sifted}
use Rattle.kinds.specs.Limits.{doubles}
use Rattle.judge.specs.Judge.{fault_free}
use Rattle.sheet.specs.Sheet.{patterns_of}
use Rattle.rescue.proofs.entries.count_kept.Given as goal

abbrev pub invariant-loop-i : goal.invariant-loop-i
invariant-loop-i l = (l.kept ≤ l.i) × Sifted (fault_free doubles) (patterns_of l.n (drop 5 l.damaged)) l.kept l.i
