-- `byte_calls::entries::add` meets its contract: what is refused is one of the table's. Assumes nothing.
use Rattle.std.proofs.Common.{sym, ap, subst}
use Rattle.std.proofs.lemmas.Result.{err_from_is_err_and}
use Rattle.register.specs.Register.{Changed}
use Rattle.calls.specs.Inner.{EntryRefusal}
use Rattle.calls.proofs.RefusalLaws.{entry_refusal}
use Rattle.byte_calls.proofs.entries.add.Goals as goal

pub returns-in_err-add-clause-told : goal.returns-in_err-add-clause-told
returns-in_err-add-clause-told c =
    let q = err_from_is_err_and c.from_residual.result c.from_residual.ensures.1 in
    rw (q.1, q.2)
    (subst EntryRefusal (ap (λ (e : Changed). e.answer) (sym c.in_err-add.ensures)) (entry_refusal _ _ _)).place
