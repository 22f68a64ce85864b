-- `walk::opening::copy` meets its contract: the places passed are the list's floats, and no allowed pattern is a NaN's. Assumes nothing.
use Rattle.std.specs.Prelude.{◌≡◌, refl, ◌<◌, length, get_or}
use Rattle.std.proofs.Common.{ap, ◌∙◌, arith, rules}
use Rattle.std.specs.Float.Ieee.{nan, of_bits}
use Rattle.lists.proofs.Front.{store_map, end_map}
use Rattle.kinds.proofs.Areas.{read_length, read_place}
use Rattle.judge.specs.FaultLaws.{allowed_no_nan}
use Rattle.judge.proofs.FirstFaultLaws.{first_good}
use Rattle.extract.proofs.AreaLaws.{read_set}
use Rattle.walk.proofs.opening.copy.Goals as goal

pub loop-i-init : goal.loop-i-init
loop-i-init g c = (refl, refl)

pub from_bits-x-requires : goal.from_bits-x-requires
from_bits-x-requires g c =
    let W = g.F.Floating.width in
    let ps = g.F.Floating.patterns c.args.list.now in
    let i = c.loop-i.i in
    let each = g.met.F.Floating.each_pattern in
    let n = read_length g.F.Floating.pattern g.F.Floating.patterns each c.args.list.now in
    let p = read_place g.F.Floating.pattern g.F.Floating.patterns each c.args.list.now i c.index-list-i.result 0 c.index-list-i.is (omega arith) in
    rw p (allowed_no_nan W _ (((first_good W ps).0 c.requires.1).none i (rw n (omega arith))))

pub loop-i-preserved : goal.loop-i-preserved
loop-i-preserved g c =
    let a = c.args in
    let f = g.F.Floating.width.format in
    let v = g.F.Floating.value in
    let read = g.F.Floating.values in
    let i = c.loop-i.i in
    let ps = g.F.Floating.patterns a.list.now in
    let each = g.met.F.Floating.each_pattern in
    let n = read_length g.F.Floating.pattern g.F.Floating.patterns each a.list.now in
    let m = read_length v read g.met.F.Floating.each_value a.work.now in
    let p = read_place g.F.Floating.pattern g.F.Floating.patterns each a.list.now i c.index-list-i.result 0 c.index-list-i.is (omega arith) in
    let k : i < length ps = rw n (omega arith) in
    let h : i < length (read a.work.now) = rw m (omega (arith, c.requires.0)) in
    let x : v c.from_bits-x.result ≡ of_bits f (get_or ps i 0) = c.from_bits-x.ensures ∙ ap (of_bits f) p in (
      search rules,
      read_set v read g.met.F.Floating.each_value c.loop-i.work i c.from_bits-x.result
          ∙ rw (x, c.loop-i.invariant.1) (store_map (of_bits f) ps (read a.work.now) i 0 nan k h),
    )

pub returns : goal.returns
returns g c =
    let a = c.args in
    let ps = g.F.Floating.patterns a.list.now in
    let n = read_length g.F.Floating.pattern g.F.Floating.patterns g.met.F.Floating.each_pattern a.list.now in
    let m = read_length g.F.Floating.value g.F.Floating.values g.met.F.Floating.each_value a.work.now in
    c.loop-i.invariant.1
    ∙ end_map (of_bits g.F.Floating.width.format) ps (g.F.Floating.values a.work.now) c.loop-i.i (rw n (omega arith)) (rw m (omega (arith, c.requires.0)))
