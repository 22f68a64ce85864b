-- `byte_calls::faithful::answer` meets its contract: a sum is a number, and what is refused is one of the table's. Assumes nothing.
use Rattle.std.proofs.Common.{sym, ap}
use Rattle.std.proofs.lemmas.Result.{err_from_is_err_and}
use Rattle.walk.specs.Walk.{Walked}
use Rattle.rounds.specs.Instances.{doubles_fit}
use Rattle.runs.proofs.AnswerNumbers.{faithful_no_nan, faithful_refusal}
use Rattle.byte_calls.proofs.faithful.answer.Goals as goal

pub returns-in_err-walked-clause-told : goal.returns-in_err-walked-clause-told
returns-in_err-walked-clause-told c =
    let q = err_from_is_err_and c.from_residual.result c.from_residual.ensures.1 in
    let answered = ap (λ (w : Walked). w.answer) (sym c.in_err-walked.ensures) in
    rw (q.1, q.2) (faithful_refusal doubles_fit c.args.numbers.now c.args.work.now _ _ answered).place

pub float_to_bits-walked : goal.float_to_bits-walked
float_to_bits-walked c = faithful_no_nan doubles_fit c.args.numbers.now c.args.work.now (ap (λ (w : Walked). w.answer) (sym c.in_ok-walked.ensures))
