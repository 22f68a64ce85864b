-- `lines::accepted` meets its contract: a refusal of either sum is the list's, and the sums it prints are numbers. Assumes nothing.
use Rattle.std.proofs.Common.{sym, ap, refl, rules, arith}
use Rattle.std.proofs.lemmas.Result.{err_from_is_err_and}
use Rattle.walk.specs.Walk.{Walked}
use Rattle.sums.proofs.SumLaws.{sums_doubles}
use Rattle.sums.proofs.AnswerNumbers.{nearest_no_nan}
use Rattle.rounds.specs.Instances.{doubles_fit}
use Rattle.runs.proofs.AnswerNumbers.{faithful_no_nan, faithful_rounds}
use Rattle.lines.proofs.SumLaws.{lines_refused, lines_near_refused, lines_three}
use Rattle.lines.proofs.accepted.Goals as goal

pub returns-in_err-sum-clause-lines : goal.returns-in_err-sum-clause-lines
returns-in_err-sum-clause-lines c =
    let q = err_from_is_err_and c.from_residual.result c.from_residual.ensures.1 in
    let answered = ap (λ (w : Walked). w.answer) (sym c.in_err-sum.ensures) in
    rw (q.1, q.2) (refl, lines_refused c.args.list.now c.args.work.now _ _ answered)

pub returns-in_err-near-clause-lines : goal.returns-in_err-near-clause-lines
returns-in_err-near-clause-lines c =
    let q = err_from_is_err_and c.from_residual-in_err-near.result c.from_residual-in_err-near.ensures.1 in
    let e = ap (λ (w : Walked). w.answer) (sym c.in_ok-sum.ensures) in
    rw (q.1, q.2) (refl, lines_near_refused c.args.list.now c.args.work.now _ _ e _ _ (sym c.in_err-near.ensures))

pub float_to_bits-sum : goal.float_to_bits-sum
float_to_bits-sum c =
    let e = ap (λ (w : Walked). w.answer) (sym c.in_ok-sum.ensures) in
    faithful_no_nan doubles_fit c.args.list.now c.args.work.now e

pub float_to_bits-near : goal.float_to_bits-near
float_to_bits-near c = nearest_no_nan sums_doubles c.args.list.now (sym c.in_ok-near.ensures)

pub three-requires : goal.three-requires
three-requires c =
    let e = ap (λ (w : Walked). w.answer) (sym c.in_ok-sum.ensures) in
    (c.requires.0, omega (arith, faithful_rounds doubles_fit c.args.list.now c.args.work.now e), search rules)

pub returns-clause-lines : goal.returns-clause-lines
returns-clause-lines c =
    let e = ap (λ (w : Walked). w.answer) (sym c.in_ok-sum.ensures) in
    rw (lines_three c.args.list.now c.args.work.now _ _ e _ (sym c.in_ok-near.ensures)) c.three.ensures
