-- `lanes::carries::top` meets its contract: at each turn the carry is the one into the lane i. Assumes nothing.
use Rattle.std.proofs.Common.{◌≡◌}
use Rattle.lanes.specs.Settle.{carry_into}
use Rattle.lanes.proofs.carries.top.Given as goal

abbrev pub invariant-loop-i : goal.invariant-loop-i
invariant-loop-i l = l.carry ≡ carry_into l.lanes l.i
