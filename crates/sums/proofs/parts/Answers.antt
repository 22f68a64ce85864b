-- `sums::parts` meets its contract: the words hold the sum of an allowed list and are split into the area; a refusal is the judge's. Assumes nothing.
use borrow.Author.Rules.{rules}
use mathlib.Core.Path.{◌≡◌, refl, sym, ap, ◌∙◌}
use mathlib.Core.Bool.{true}
use lib.ListN.{length}
use lib.IntN.{ℤ}
use Rattle.std.proofs.lemmas.Result.{err_from_is_err_and}
use Rattle.kinds.specs.Limits.{doubles}
use Rattle.kinds.specs.Answers.{as_verdict}
use Rattle.kinds.specs.Verdict.{Good}
use Rattle.judge.proofs.JudgeLaws.{list_when, list_passed, list_allowed}
use Rattle.sums.specs.Sums.{sum_of, parts, fitting}
use Rattle.sums.specs.PartsLaws.{remaining}
use Rattle.sums.proofs.SumLaws.{sums_doubles, sum_below_limit, sum_whole}
use Rattle.sums.proofs.AnswerLaws.{parts_refused, parts_answer}
use Rattle.sums.proofs.parts.Goals as goal

pub returns-in_err-judge : goal.returns-in_err-judge
returns-in_err-judge c =
    let f : c.contains-fits.result ≡ fitting doubles c.args.area.now = search rules in
    let q = err_from_is_err_and c.from_residual.result c.from_residual.ensures.1 in
    rw (q.1, q.2)
    (parts_refused doubles c.args.list.now c.args.area.now _ _ (sym (rw f at c.judge.ensures) ∙ ap as_verdict c.in_err-judge.was))

pub total-requires : goal.total-requires
total-requires c =
    let ps = c.args.list.now in
    let v = (list_when doubles true _ ps Good).0 (sym c.judge.ensures ∙ ap as_verdict c.in_ok-judge.was) in
    (refl, list_allowed v, (list_passed v).few)

pub split-requires : goal.split-requires
split-requires c =
    let ps = c.args.list.now in
    let v = (list_when doubles true _ ps Good).0 (sym c.judge.ensures ∙ ap as_verdict c.in_ok-judge.was) in
    let l = sum_below_limit sums_doubles (list_passed v).few (list_allowed v) in
    (search rules, rw (sum_whole doubles.format (sum_of doubles.format ps) l c.total.ensures) l)

pub returns : goal.returns
returns c =
    let ps = c.args.list.now in
    let area = c.args.area.now in
    let f : c.contains-fits.result ≡ fitting doubles area = search rules in
    let e = sym (rw f at c.judge.ensures) ∙ ap as_verdict c.in_ok-judge.was in
    let v = (list_when doubles true _ ps Good).0 e in
    let l = sum_below_limit sums_doubles (list_passed v).few (list_allowed v) in
    let w = sum_whole doubles.format (sum_of doubles.format ps) l c.total.ensures in
    let zero = c.zero_sign-zero.result in
    parts_answer doubles ps c.split.new.words area c.split.new.area zero c.is_zero.result e c.zero_sign-zero.ensures
    (c.split.ensures.filled ∙ ap (λ (y : ℤ). parts doubles.format (length area) zero y) w)
    (c.split.ensures.left ∙ ap (λ (y : ℤ). remaining doubles.format (length area) zero y) w)
    c.is_zero.ensures
