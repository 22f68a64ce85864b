-- `timed::put_all` meets its contract: after i numbers the lanes are those of the first i, and have room for what 1 + i calls may leave. Assumes nothing.
use native.Mathlib.Omega.{arith}
use mathlib.Core.Path.{◌∙◌}
use lib.ListN.{get_or}
use Rattle.kinds.specs.Limits.{doubles}
use Rattle.judge.specs.FaultLaws.{allowed_number}
use Rattle.addend.specs.Addend.{units_of}
use Rattle.lanes.proofs.RoomLaws.{roomy_most, room_kept}
use Rattle.timed.proofs.TimedLaws.{put_none, put_next}
use Rattle.timed.proofs.put_all.Goals as goal

pub loop-p-init : goal.loop-p-init
loop-p-init c = (c.requires.1, put_none c.args.lanes.now c.args.list.now)

pub add-requires : goal.add-requires
add-requires c = (
  c.loop-p.auto.lanes ∙ c.requires.0,
  roomy_most c.loop-p.invariant.0,
  (allowed_number doubles _ (c.requires.2.none c.loop-p.p-index c.loop-p-test.true)).fini,
)

pub loop-p-preserved : goal.loop-p-preserved
loop-p-preserved c =
    let h = c.loop-p-test.true in
    let u = units_of doubles (get_or c.args.list.now c.loop-p.p-index 0) in (
      rw c.add.ensures (room_kept u c.loop-p.invariant.0 (omega (arith, h, c.requires.3))),
      c.add.ensures ∙ put_next c.args.lanes.now c.args.list.now c.loop-p.p-index h c.loop-p.invariant.1,
    )
