-- `sum_calls::inner::faithful` meets its contract: what is refused is one of the table's. Assumes nothing.
use Rattle.std.proofs.Common.{sym, ap, le_trans}
use Rattle.std.proofs.lemmas.Result.{err_from_is_err_and}
use Rattle.kinds.proofs.KnownLaws.{figures}
use Rattle.walk.specs.Walk.{Walked}
use Rattle.rounds.specs.Instances.{fit_of}
use Rattle.runs.proofs.AnswerNumbers.{faithful_refusal}
use Rattle.sum_calls.proofs.inner.faithful.Goals as goal

pub returns-in_err-walked-clause-told : goal.returns-in_err-walked-clause-told
returns-in_err-walked-clause-told g c =
    let K = figures g.met.F.Floating.known in
    let q = err_from_is_err_and c.from_residual.result c.from_residual.ensures.1 in
    let answered = ap (λ (w : Walked). w.answer) (sym c.in_err-walked.ensures) in
    rw (q.1, q.2)
    (le_trans (faithful_refusal (fit_of g.met.F.Floating.known) (g.F.Floating.patterns c.args.list.now) (g.F.Floating.values c.args.work.now) _ _
    answered).place K.few)
