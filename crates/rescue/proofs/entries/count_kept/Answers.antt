-- `rescue::entries::count_kept` meets its contract: of the entries passed, so many are kept. Assumes nothing.
use Rattle.std.proofs.Common.{◌<◌, arith, length, drop}
use Rattle.lists.proofs.Filter.{sifted_none, sifted_pass, sifted_fail, sifted_all}
use Rattle.octets.specs.Octets.{big}
use Rattle.octets.proofs.EightsLaws.{eights_length}
use Rattle.sheet.specs.Sheet.{patterns_of}
use Rattle.rescue.proofs.EntryLaws.{entry_inside, entry_kept, entry_dropped}
use Rattle.rescue.proofs.entries.count_kept.Goals as goal

pub loop-i-init : goal.loop-i-init
loop-i-init c = (omega arith, sifted_none)

pub loop-i-preserved : goal.loop-i-preserved
loop-i-preserved c =
    let a = c.args in
    let i = c.loop-i.i in
    let h : i < a.n = omega arith in
    let j : i < length (patterns_of a.n (drop 5 a.damaged.now)) = entry_inside a.damaged.now a.n i h in
    let r = c.big_endian.ensures in
    let f = c.fault.ensures in
    elim c.if-is_none.branch [
      | goal.then-is_none g ↦ rw g.kept-is
          (omega arith, sifted_pass c.loop-i.invariant.1 0 j (entry_kept a.damaged.now a.n i h r c.fault.result f c.is_none.ensures g.if-is_none.true))
      | goal.else-is_none g ↦ rw g.kept-is
          (omega arith, sifted_fail c.loop-i.invariant.1 0 j (entry_dropped a.damaged.now a.n i h r c.fault.result f c.is_none.ensures g.if-is_none.false))
    ]

pub returns : goal.returns
returns c =
    let a = c.args in
    sifted_all c.loop-i.invariant.1 (omega (arith, eights_length big a.n (drop 5 a.damaged.now)))
