-- `lanes::carries::carry` meets its contract: at each turn the lowest i lanes hold their digits, and the carry is the one into the lane i. Assumes nothing.
use Rattle.std.proofs.Common.{◌≡◌}
use Rattle.lanes.specs.Settle.{carry_into}
use Rattle.lanes.proofs.Carrying.{settled_to}
use Rattle.lanes.proofs.carries.carry.Given as goal

abbrev pub invariant-loop-i : goal.invariant-loop-i
invariant-loop-i l = (l.carry ≡ carry_into l.initial.lanes l.i) × (l.lanes ≡ settled_to l.initial.lanes l.i)
