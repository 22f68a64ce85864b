-- `sums::long::gather` meets its contract: after i numbers the lanes are the two sides of the first i, and have room for the others. Assumes nothing.
use mathlib.Core.Path.{◌≡◌}
use lib.ListN.{take}
use Rattle.kinds.specs.Limits.{doubles}
use Rattle.sums.specs.ListSides.{list_sides}
use Rattle.sums.specs.SignLanes.{Lanes, Room, lane_sides}
use Rattle.sums.proofs.long.gather.Given as goal

abbrev pub invariant-loop-p : goal.invariant-loop-p
invariant-loop-p l =
    Lanes l.low l.above
    × Room l.p-index l.low l.above
    × ((lane_sides l.low l.above).up ≡ (list_sides doubles (take l.p-index l.fn.list)).up)
    × ((lane_sides l.low l.above).dn ≡ (list_sides doubles (take l.p-index l.fn.list)).dn)
