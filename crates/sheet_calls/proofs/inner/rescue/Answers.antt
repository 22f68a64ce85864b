-- `sheet_calls::inner::rescue` meets its contract: over areas without a byte the rescue is refused for the bytes alone, or with 4, and what is refused is
-- one of the table's. Assumes nothing.
use Rattle.std.proofs.Common.{[], sym, ap, ◌∙◌}
use Rattle.std.proofs.lemmas.Result.{err_from_is_err_and}
use Rattle.rescue.specs.Rescue.{Rescuing}
use Rattle.sheet_calls.specs.RescueArrays.{rescue_returned}
use Rattle.sheet_calls.proofs.RescueCodes.{rescue_unreported, rescue_refused}
use Rattle.sheet_calls.proofs.Unlooked.{rescue_code, never_rescued}
use Rattle.sheet_calls.proofs.inner.rescue.Goals as goal

pub returns-in_err-rescue-clause-told : goal.returns-in_err-rescue-clause-told
returns-in_err-rescue-clause-told c =
    let q = err_from_is_err_and c.from_residual.result c.from_residual.ensures.1 in
    let answered = ap (λ (x : Rescuing). x.answer) (sym c.in_err-rescue.ensures) in
    rw (q.1, q.2) ((rescue_refused c.args.damaged.now [] [] _ _ answered).place)

pub returns-in_err-rescue-clause-returned : goal.returns-in_err-rescue-clause-returned
returns-in_err-rescue-clause-returned c =
    let q = err_from_is_err_and c.from_residual.result c.from_residual.ensures.1 in
    let a = c.args in
    let answered = ap (λ (x : Rescuing). x.answer) (sym c.in_err-rescue.ensures) in
    rw (q.1, q.2)
    (ap (λ n. rescue_returned n a.sheet.now a.marks.now a.report.now) (rescue_code a.damaged.now _ _ answered)
    ∙ sym (rescue_unreported a.damaged.now a.sheet.now a.marks.now a.report.now c.if-report-ne4.true))

pub returns-then-report-ne4-clause-returned : goal.returns-then-report-ne4-clause-returned
returns-then-report-ne4-clause-returned c = absurd (never_rescued c.args.damaged.now (ap (λ (x : Rescuing). x.answer) (sym c.in_ok-rescue.ensures)))

pub returns-in_err-saved-clause-told : goal.returns-in_err-saved-clause-told
returns-in_err-saved-clause-told c =
    let q = err_from_is_err_and c.from_residual-in_err-saved.result c.from_residual-in_err-saved.ensures.1 in
    let answered = ap (λ (x : Rescuing). x.answer) (sym c.in_err-saved.ensures) in
    rw (q.1, q.2) ((rescue_refused c.args.damaged.now c.args.sheet.now c.args.marks.now _ _ answered).place)
