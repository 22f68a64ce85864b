-- `timed::put_all` meets its contract: after i numbers the lanes are those of the first i, and have room for what 1 + i calls may leave. Assumes nothing.
use mathlib.Core.Path.{◌≡◌}
use Prim.Native.Nat.{◌+◌}
use lib.ListN.{take}
use Rattle.lanes.specs.Table.{Roomy}
use Rattle.timed.specs.Timed.{put_all}
use Rattle.timed.proofs.put_all.Given as goal

abbrev pub invariant-loop-p : goal.invariant-loop-p
invariant-loop-p l = Roomy (l.p-index + 1) l.lanes × (l.lanes ≡ put_all l.initial.lanes (take l.p-index l.list))
