-- `rescue::entries::write_kept` meets its contract: behind the five bytes of a header stand the first of the patterns that are kept, as many as the entries
-- passed have. Assumes nothing.
use Rattle.std.proofs.Common.{◌≡◌, ◌++◌, ◌+◌, ◌*◌, ◌≤◌, take, drop}
use Rattle.lists.specs.Filter.{Sifted}
use Rattle.kinds.specs.Limits.{doubles}
use Rattle.judge.specs.Judge.{fault_free}
use Rattle.sheet.specs.Sheet.{body, patterns_of}
use Rattle.rescue.specs.Rescue.{kept_of}
use Rattle.rescue.proofs.entries.write_kept.Given as goal

abbrev pub invariant-loop-i : goal.invariant-loop-i
invariant-loop-i l =
    let ps = patterns_of l.n (drop 5 l.damaged) in
    (l.kept ≤ l.i) × Sifted (fault_free doubles) ps l.kept l.i
    × (l.sheet ≡ take 5 l.initial.sheet ++ (body (take l.kept (kept_of doubles ps)) ++ drop (5 + 8 * l.kept) l.initial.sheet))
