-- `step_calls::inner::open` meets its contract: what is refused is one of the table's. Assumes nothing.
use Rattle.std.proofs.Common.{sym, ap}
use Rattle.std.proofs.lemmas.Result.{err_from_is_err_and}
use Rattle.kinds.proofs.KnownLaws.{figures}
use Rattle.walk.specs.Walk.{Walked}
use Rattle.step_calls.proofs.StepArraysLaws.{open_place}
use Rattle.step_calls.proofs.inner.open.Goals as goal

pub returns-in_err-step-clause-told : goal.returns-in_err-step-clause-told
returns-in_err-step-clause-told g c =
    let q = err_from_is_err_and c.from_residual.result c.from_residual.ensures.1 in
    let answered = ap (λ (x : Walked). x.answer) (sym c.in_err-step.ensures) in
    rw (q.1, q.2) (open_place _ (figures g.met.F.Floating.known).few _ _ _ _ _ answered)
