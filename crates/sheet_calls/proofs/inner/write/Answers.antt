-- `sheet_calls::inner::write` meets its contract: what is refused is one of the table's. Assumes nothing.
use Rattle.std.proofs.Common.{sym, ap}
use Rattle.std.proofs.lemmas.Result.{err_from_is_err_and}
use Rattle.sheet.specs.Write.{Writing}
use Rattle.sheet_calls.proofs.WriteCodes.{write_refused}
use Rattle.sheet_calls.proofs.inner.write.Goals as goal

pub returns-in_err-bytes-clause-told : goal.returns-in_err-bytes-clause-told
returns-in_err-bytes-clause-told c =
    let q = err_from_is_err_and c.from_residual.result c.from_residual.ensures.1 in
    let answered = ap (λ (x : Writing). x.answer) (sym c.in_err-bytes.ensures) in
    rw (q.1, q.2) ((write_refused c.args.list.now c.args.sheet.now _ _ answered).place)
