-- `sums::nearest` meets its contract: the words hold the sum of an allowed list, and are rounded; a refusal is the judge's. Assumes nothing.
use Rattle.std.specs.Prelude.{◌≡◌, refl, true}
use Rattle.std.proofs.Common.{rules, sym, ap, ◌∙◌}
use Rattle.std.proofs.lemmas.Result.{err_from_is_err_and}
use Rattle.ieee.specs.Units.{nearest_float}
use Rattle.kinds.specs.Nearest.{Sum}
use Rattle.kinds.specs.Verdict.{Good}
use Rattle.kinds.specs.Answers.{as_verdict}
use Rattle.kinds.proofs.Areas.{read_length}
use Rattle.judge.specs.Judge.{judged}
use Rattle.judge.proofs.JudgeLaws.{list_when, list_passed, list_allowed}
use Rattle.sums.specs.Sums.{sum_of}
use Rattle.sums.proofs.SumLaws.{sums_known, sum_below_limit, sum_whole}
use Rattle.sums.proofs.AnswerLaws.{nearest_good, nearest_refused}
use Rattle.sums.proofs.nearest.Goals as goal

pub returns-in_err-judge : goal.returns-in_err-judge
returns-in_err-judge g c =
    let ps = g.F.Floating.patterns c.args.list.now in
    let q = err_from_is_err_and c.from_residual.result c.from_residual.ensures.1 in
    rw (q.1, q.2) (sym (nearest_refused g.F.Floating.width ps _ _ (sym c.judge.ensures ∙ ap as_verdict c.in_err-judge.was)))

pub total-requires : goal.total-requires
total-requires g c =
    let W = g.F.Floating.width in
    let ps = g.F.Floating.patterns c.args.list.now in
    let n = read_length g.F.Floating.pattern g.F.Floating.patterns g.met.F.Floating.each_pattern c.args.list.now in
    let v = (list_when W true true ps Good).0 (sym c.judge.ensures ∙ ap as_verdict c.in_ok-judge.was) in
    (refl, list_allowed v, rw n at (list_passed v).few)

pub nearest_float-requires : goal.nearest_float-requires
nearest_float-requires g c =
    let W = g.F.Floating.width in
    let ps = g.F.Floating.patterns c.args.list.now in
    let v = (list_when W true true ps Good).0 (sym c.judge.ensures ∙ ap as_verdict c.in_ok-judge.was) in
    let l = sum_below_limit (sums_known g.met.F.Floating.known) (list_passed v).few (list_allowed v) in
    (search rules, rw (sum_whole W.format (sum_of W.format ps) l c.total.ensures) l)

pub returns : goal.returns
returns g c =
    let W = g.F.Floating.width in
    let ps = g.F.Floating.patterns c.args.list.now in
    let e : judged W true true ps ≡ Good = sym c.judge.ensures ∙ ap as_verdict c.in_ok-judge.was in
    let v = (list_when W true true ps Good).0 e in
    let l = sum_below_limit (sums_known g.met.F.Floating.known) (list_passed v).few (list_allowed v) in
    let w = sum_whole W.format (sum_of W.format ps) l c.total.ensures in
    ap Sum (c.nearest_float.ensures ∙ (λ i. nearest_float W.format (c.zero_sign-zero.ensures i) (w i))) ∙ sym (nearest_good W ps e)
