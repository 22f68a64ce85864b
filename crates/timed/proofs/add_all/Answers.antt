-- `timed::add_all` meets its contract: the list is judged, the lanes are looked at, and then every number is put. Assumes nothing.
use Rattle.std.proofs.Common.{true, sym}
use Rattle.kinds.specs.Limits.{doubles}
use Rattle.kinds.specs.Verdict.{Good}
use Rattle.judge.proofs.JudgeLaws.{list_when, list_passed, list_allowed}
use Rattle.timed.proofs.TimedLaws.{looked}
use Rattle.timed.proofs.add_all.Goals as goal

pub put_all-requires : goal.put_all-requires
put_all-requires c =
    let a = c.args in
    let v = (list_when doubles true true a.list.now Good).0 (sym c.in_ok-judge.ensures) in
    let l = looked a.lanes.now c.in_ok-add.ensures in
    (l.0, l.1, list_allowed v, (list_passed v).few)
