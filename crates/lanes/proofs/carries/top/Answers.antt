-- `lanes::carries::top` meets its contract: at each turn the carry is the one into the lane i. Assumes nothing.
use mathlib.Core.Path.{◌≡◌, refl}
use Prim.Native.Nat.{◌<◌}
use native.Mathlib.Omega.{arith}
use lib.ListN.{length}
use mir.Syntax.{w64}
use mir.Val.{to_z}
use Rattle.lanes.specs.Settle.{carry_into, lane_carry}
use Rattle.lanes.proofs.Carrying.{addends, sum_back, handed}
use Rattle.lanes.proofs.carries.top.Goals as goal

pub loop-i-init : goal.loop-i-init
unfolding lane_carry
loop-i-init c = refl

pub plus-requires : goal.plus-requires
plus-requires c =
    let turn : c.loop-i.i < length c.args.lanes.now = omega (arith, c.requires.0) in
    addends c.requires.1 turn c.loop-i.carry-bits c.loop-i.invariant

pub loop-i-preserved : goal.loop-i-preserved
loop-i-preserved c =
    let turn : c.loop-i.i < length c.args.lanes.now = omega (arith, c.requires.0) in
    handed c.requires.1 turn c.loop-i.carry-bits c.loop-i.invariant c.plus.ensures c.handed_on-carry.ensures

pub plus-requires-2 : goal.plus-requires-2
plus-requires-2 c =
    let last : 65 < length c.args.lanes.now = omega (arith, c.requires.0) in
    let into-top : to_z w64 c.loop-i.carry-bits ≡ carry_into c.args.lanes.now 65 = let e : c.loop-i.i ≡ 65 = omega arith in
    rw e at c.loop-i.invariant in
    addends c.requires.1 last c.loop-i.carry-bits into-top

pub returns : goal.returns
returns c =
    let last : 65 < length c.args.lanes.now = omega (arith, c.requires.0) in
    let into-top : to_z w64 c.loop-i.carry-bits ≡ carry_into c.args.lanes.now 65 = let e : c.loop-i.i ≡ 65 = omega arith in
    rw e at c.loop-i.invariant in
    sum_back c.requires.1 last c.loop-i.carry-bits into-top c.plus-2.ensures
