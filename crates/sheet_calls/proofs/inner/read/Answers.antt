-- `sheet_calls::inner::read` meets its contract: the reader over nothing refuses as over the area, 4 is the rest, and what is refused is one of the table's.
-- Assumes nothing.
use Rattle.std.proofs.Common.{[], sym, ap, ◌∙◌}
use Rattle.std.proofs.lemmas.Result.{err_from_is_err_and}
use Rattle.sheet.specs.Sheet.{Reading}
use Rattle.arrays.specs.Arrays.{returned}
use Rattle.sheet_calls.proofs.SheetArraysLaws.{read_other, read_refusal, unread_read}
use Rattle.sheet_calls.proofs.Unlooked.{read_code}
use Rattle.sheet_calls.proofs.inner.read.Goals as goal

pub returns-in_err-read-clause-told : goal.returns-in_err-read-clause-told
returns-in_err-read-clause-told c =
    let q = err_from_is_err_and c.from_residual.result c.from_residual.ensures.1 in
    let answered = ap (λ (x : Reading). x.answer) (sym c.in_err-read.ensures) in
    rw (q.1, q.2) ((read_refusal c.args.sheet.now [] _ _ answered).place)

pub returns-in_err-read-clause-returned : goal.returns-in_err-read-clause-returned
returns-in_err-read-clause-returned c =
    let q = err_from_is_err_and c.from_residual.result c.from_residual.ensures.1 in
    let a = c.args in
    let answered = ap (λ (x : Reading). x.answer) (sym c.in_err-read.ensures) in
    rw (q.1, q.2)
    (ap (λ n. returned n a.area.now a.out.now) (read_code a.sheet.now a.area.now _ _ answered)
    ∙ sym (read_other a.sheet.now a.area.now a.out.now c.if-out-ne1.true))

pub returns-then-out-ne1-clause-returned : goal.returns-then-out-ne1-clause-returned
returns-then-out-ne1-clause-returned c =
    let a = c.args in
    let answered = ap (λ (x : Reading). x.answer) (sym c.in_ok-read.ensures) in
    ap (λ n. returned n a.area.now a.out.now) (unread_read a.sheet.now a.area.now [] _ answered)
    ∙ sym (read_other a.sheet.now a.area.now a.out.now c.if-out-ne1.true)

pub returns-in_err-count-clause-told : goal.returns-in_err-count-clause-told
returns-in_err-count-clause-told c =
    let q = err_from_is_err_and c.from_residual-in_err-count.result c.from_residual-in_err-count.ensures.1 in
    let answered = ap (λ (x : Reading). x.answer) (sym c.in_err-count.ensures) in
    rw (q.1, q.2) ((read_refusal c.args.sheet.now c.args.area.now _ _ answered).place)
