-- `walk::open` meets its contract: a refusal is the judge's, and an allowed list is started. Assumes nothing.
use Rattle.std.specs.Prelude.{true, eqb}
use Rattle.std.proofs.Common.{sym, ap, ◌∙◌, arith, eqb→eq}
use Rattle.std.proofs.lemmas.Result.{err_from_is_err_and}
use Rattle.kinds.specs.Verdict.{Verdict}
use Rattle.kinds.specs.Verdict.{Good}
use Rattle.kinds.proofs.Areas.{read_length}
use Rattle.judge.specs.Judge.{judged}
use Rattle.judge.proofs.JudgeLaws.{list_when, list_passed, list_allowed}
use Rattle.judge.proofs.FirstFaultLaws.{first_good}
use Rattle.walk.specs.Walk.{opened_after}
use Rattle.walk.specs.OpeningLaws.{opened_refused}
use Rattle.walk.proofs.open.Goals as goal

pub start-requires : goal.start-requires
start-requires g c =
    let W = g.F.Floating.width in
    let ps = g.F.Floating.patterns c.args.list.now in
    let n = read_length g.F.Floating.pattern g.F.Floating.patterns g.met.F.Floating.each_pattern c.args.list.now in
    let v = (list_when W _ true ps Good).0 (sym c.in_ok-greatest.ensures.judged) in (
      eqb→eq _ _ (list_passed v).right_area,
      omega (arith, n, (list_passed v).few),
      (first_good W ps).1 (list_allowed v),
      c.in_ok-greatest.ensures.greatest,
    )

pub returns-in_err-greatest : goal.returns-in_err-greatest
returns-in_err-greatest g c =
    let q = err_from_is_err_and c.from_residual.result c.from_residual.ensures.1 in
    let W = g.F.Floating.width in
    let a = c.args in
    let ps = g.F.Floating.patterns a.list.now in
    let xs = g.F.Floating.values a.work.now in
    let n = read_length g.F.Floating.pattern g.F.Floating.patterns g.met.F.Floating.each_pattern a.list.now in
    let m = read_length g.F.Floating.value g.F.Floating.values g.met.F.Floating.each_value a.work.now in
    rw (q.1, q.2)
    (opened_refused W a.ensemble _ _ _ ps xs ((λ i. judged W (eqb (m i) (n i)) true ps) ∙ sym c.in_err-greatest.ensures.judged))

pub returns : goal.returns
returns g c =
    let W = g.F.Floating.width in
    let a = c.args in
    let ps = g.F.Floating.patterns a.list.now in
    let xs = g.F.Floating.values a.work.now in
    let n = read_length g.F.Floating.pattern g.F.Floating.patterns g.met.F.Floating.each_pattern a.list.now in
    let m = read_length g.F.Floating.value g.F.Floating.values g.met.F.Floating.each_value a.work.now in
    c.start.ensures
    ∙ ap (λ (v : Verdict). opened_after W a.ensemble v ps xs) (c.in_ok-greatest.ensures.judged ∙ (λ i. judged W (eqb (sym m i) (sym n i)) true ps))
