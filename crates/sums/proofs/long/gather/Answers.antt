-- `sums::long::gather` meets its contract: after i numbers the lanes are the two sides of the first i, and have room for the others. Assumes nothing.
use native.Mathlib.Omega.{arith}
use mathlib.Core.Path.{◌∙◌}
use Rattle.kinds.specs.Limits.{doubles}
use Rattle.judge.specs.FaultLaws.{allowed_number}
use Rattle.sums.proofs.SideSums.{sides_up, sides_dn}
use Rattle.sums.proofs.SignLanesLaws.{room_none, sides_none, room_within, room_next}
use Rattle.sums.proofs.long.gather.Goals as goal

pub loop-p-init : goal.loop-p-init
loop-p-init c =
    let z = sides_none c.requires.1 in
    (c.requires.0, room_none c.requires.1, z.0, z.1)

pub put-requires : goal.put-requires
put-requires c =
    let h = c.loop-p-test.true in (
      c.loop-p.invariant.0,
      room_within (omega (arith, h, c.requires.3)) c.loop-p.invariant.1,
      (allowed_number doubles _ (c.requires.2.none c.loop-p.p-index h)).fini,
    )

pub loop-p-preserved : goal.loop-p-preserved
loop-p-preserved c =
    let h = c.loop-p-test.true in
    let ps = c.args.list.now in
    let v = c.loop-p.invariant in
    let P = c.put.ensures in (
      record { first = c.put.auto.low ∙ v.0.first; second = c.put.auto.above ∙ v.0.second },
      room_next v.1 P,
      P.plus ∙ omega (arith, v.2, sides_up doubles ps c.loop-p.p-index h),
      P.minus ∙ omega (arith, v.3, sides_dn doubles ps c.loop-p.p-index h),
    )
