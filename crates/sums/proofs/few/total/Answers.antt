-- `sums::few::total` meets its contract: after i numbers the words are those of the start and the sum of the first i. Assumes nothing.
use Rattle.std.proofs.Common.{◌∙◌}
use Rattle.std.proofs.Math.Seq.{take_all}
use Rattle.kinds.proofs.Areas.{read_length, read_place}
use Rattle.judge.specs.FaultLaws.{allowed_number}
use Rattle.words.specs.Words.{whole_of}
use Rattle.addend.proofs.RegisterWords.{held}
use Rattle.sums.proofs.SumLaws.{total_begins, total_goes_on}
use Rattle.sums.proofs.few.total.Goals as goal

pub loop-p-init : goal.loop-p-init
loop-p-init g c =
    (c.requires.0, total_begins g.F.Floating.width (g.F.Floating.patterns c.args.list.now) (held c.requires.0 c.type_inv.words))

pub add-requires : goal.add-requires
add-requires g c =
    let W = g.F.Floating.width in
    let p = g.F.Floating.pattern in
    let read = g.F.Floating.patterns in
    let each = g.met.F.Floating.each_pattern in
    let i = c.loop-p.p-index in
    let x = read_place p read each c.args.list.now i c.p-item.result 0 c.p-item.is c.loop-p-test.true in
    let n = read_length p read each c.args.list.now in
    (c.loop-p.invariant.0, rw x (allowed_number W _ (c.requires.1.none i (rw n c.loop-p-test.true))).fini)

pub loop-p-preserved : goal.loop-p-preserved
loop-p-preserved g c =
    let W = g.F.Floating.width in
    let p = g.F.Floating.pattern in
    let read = g.F.Floating.patterns in
    let each = g.met.F.Floating.each_pattern in
    let i = c.loop-p.p-index in
    let x = read_place p read each c.args.list.now i c.p-item.result 0 c.p-item.is c.loop-p-test.true in
    let n = read_length p read each c.args.list.now in (
      c.add.auto.words ∙ c.loop-p.invariant.0,
      c.add.ensures ∙ rw x (total_goes_on W (whole_of c.args.words.now) (read c.args.list.now) i (rw n c.loop-p-test.true) c.loop-p.invariant.1),
    )

pub returns : goal.returns
returns g c =
    let read = g.F.Floating.patterns in
    let n = read_length g.F.Floating.pattern read g.met.F.Floating.each_pattern c.args.list.now in
    c.loop-p.invariant.1 ∙ rw (take_all c.loop-p.p-index (read c.args.list.now) (rw n c.loop-p-test.false))
