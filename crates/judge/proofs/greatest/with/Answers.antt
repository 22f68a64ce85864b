-- `judge::greatest::with` meets its contract: the pattern kept is the greatest of the one handed in and the places passed. Assumes nothing.
use Rattle.std.specs.Prelude.{◌≡◌, ℕ, ◌%◌, ◌<◌, map, take, get_or, length}
use Rattle.std.proofs.Common.{arith, ◌∙◌, ap}
use Rattle.std.specs.Float.Ieee.{top}
use Rattle.std.proofs.Math.Seq.{take_all}
use Rattle.std.proofs.lemmas.List.{length-map}
use Rattle.lists.proofs.Front.{take_next}
use Rattle.kinds.proofs.Areas.{read_at}
use Rattle.judge.specs.GreatestLaws.{greatest, greatest_none, greatest_next}
use Rattle.judge.proofs.greatest.with.Goals as goal

pub loop-p-init : goal.loop-p-init
loop-p-init g c = omega (arith, greatest_none g.F.Floating.width)

pub loop-p-preserved : goal.loop-p-preserved
loop-p-preserved g c =
    let W = g.F.Floating.width in
    let p = g.F.Floating.pattern in
    let i = c.loop-p.p-index in
    let ps = map p c.args.list.now in
    let h : i < length ps = omega (arith, length-map c.args.list.now p) in
    let x = read_at p c.args.list.now i c.p-item.result 0 c.p-item.is (omega arith) in
    let e = ap (greatest W) (take_next 0 ps i h) ∙ greatest_next W (take i ps) (get_or ps i 0) in
    let m : p c.unsigned.result ≡ get_or ps i 0 % top W.format = c.unsigned.ensures ∙ ap (λ (q : ℕ). q % top W.format) x in
    omega (arith, c.larger-most.ensures, m, c.loop-p.invariant, e)

pub returns : goal.returns
returns g c =
    let p = g.F.Floating.pattern in
    c.loop-p.invariant ∙ rw
    (g.met.F.Floating.each_pattern c.args.list.now, take_all c.loop-p.p-index (map p c.args.list.now) (omega (arith, length-map c.args.list.now p)))
