-- `lanes::carries::carry` meets its contract: at each turn the lowest i lanes hold their digits, and the carry is the one into the lane i. Assumes nothing.
use mathlib.Core.Path.{◌≡◌, refl, ◌∙◌}
use Prim.Native.Nat.{◌<◌}
use native.Mathlib.Omega.{arith}
use lib.IntN.{pos}
use lib.ListN.{length, get_or, set}
use mir.Syntax.{w64}
use mir.Val.{to_z}
use Rattle.lanes.specs.Settle.{lane_digits, lane_carry, carry_into}
use Rattle.lanes.proofs.Carrying.{addends, sum_back, handed, rested, settled_to, settled_ahead, settled_next, settled_last}
use Rattle.lanes.proofs.carries.carry.Goals as goal

pub loop-i-init : goal.loop-i-init
unfolding lane_carry lane_digits
loop-i-init c = (refl, refl)

pub plus-sum-requires : goal.plus-sum-requires
plus-sum-requires c =
    let turn : c.loop-i.i < length c.args.lanes.now = omega (arith, c.requires.0) in
    let held : get_or c.loop-i.lanes c.loop-i.i (pos 0) ≡ get_or c.args.lanes.now c.loop-i.i (pos 0) =
    rw c.loop-i.invariant.1 (settled_ahead c.args.lanes.now c.loop-i.i turn) in
    rw held (addends c.requires.1 turn c.loop-i.carry-bits c.loop-i.invariant.0)

pub loop-i-preserved : goal.loop-i-preserved
loop-i-preserved c =
    let turn : c.loop-i.i < length c.args.lanes.now = omega (arith, c.requires.0) in
    let held : get_or c.loop-i.lanes c.loop-i.i (pos 0) ≡ get_or c.args.lanes.now c.loop-i.i (pos 0) =
    rw c.loop-i.invariant.1 (settled_ahead c.args.lanes.now c.loop-i.i turn) in
    let zs = c.args.lanes.now in
    let sum = rw held at c.plus-sum.ensures in
    let digit = rested c.requires.1 turn c.loop-i.carry-bits c.loop-i.invariant.0 sum c.rest.ensures in (
      handed c.requires.1 turn c.loop-i.carry-bits c.loop-i.invariant.0 sum c.handed_on-carry.ensures,
      (λ j. set (c.loop-i.invariant.1 j) c.loop-i.i (digit j)) ∙ settled_next zs c.loop-i.i turn,
    )

pub plus-requires : goal.plus-requires
plus-requires c =
    let into-top : (let zs = c.args.lanes.now in
    (to_z w64 c.loop-i.carry-bits ≡ carry_into zs 65) × (c.loop-i.lanes ≡ settled_to zs 65)) = let e : c.loop-i.i ≡ 65 = omega arith in
    (rw e at c.loop-i.invariant.0, rw e at c.loop-i.invariant.1) in
    let last : 65 < length c.args.lanes.now = omega (arith, c.requires.0) in
    let held-top : get_or c.loop-i.lanes 65 (pos 0) ≡ get_or c.args.lanes.now 65 (pos 0) = rw into-top.1 (settled_ahead c.args.lanes.now 65 last) in
    rw held-top (addends c.requires.1 last c.loop-i.carry-bits into-top.0)

pub returns : goal.returns
returns c =
    let into-top : (let zs = c.args.lanes.now in
    (to_z w64 c.loop-i.carry-bits ≡ carry_into zs 65) × (c.loop-i.lanes ≡ settled_to zs 65)) = let e : c.loop-i.i ≡ 65 = omega arith in
    (rw e at c.loop-i.invariant.0, rw e at c.loop-i.invariant.1) in
    let last : 65 < length c.args.lanes.now = omega (arith, c.requires.0) in
    let held-top : get_or c.loop-i.lanes 65 (pos 0) ≡ get_or c.args.lanes.now 65 (pos 0) = rw into-top.1 (settled_ahead c.args.lanes.now 65 last) in
    let sum = rw held-top at c.plus.ensures in
    let top = sum_back c.requires.1 last c.loop-i.carry-bits into-top.0 sum in
    (λ j. set (into-top.1 j) 65 (top j)) ∙ settled_last c.args.lanes.now c.requires.0 _
