-- `byte_calls::nearest_sum::answer` meets its contract: a sum is a number, and what is refused is one of the table's. Assumes nothing.
use Rattle.std.proofs.Common.{sym}
use Rattle.std.proofs.lemmas.Result.{err_from_is_err_and}
use Rattle.kinds.specs.Limits.{doubles}
use Rattle.sums.proofs.SumLaws.{sums_doubles}
use Rattle.sums.proofs.AnswerNumbers.{nearest_no_nan, nearest_refusal}
use Rattle.byte_calls.proofs.nearest_sum.answer.Goals as goal

pub returns-in_err-sum-clause-told : goal.returns-in_err-sum-clause-told
returns-in_err-sum-clause-told c =
    let q = err_from_is_err_and c.from_residual.result c.from_residual.ensures.1 in
    rw (q.1, q.2) (nearest_refusal doubles c.args.numbers.now _ _ (sym c.in_err-sum.ensures)).place

pub float_to_bits-sum : goal.float_to_bits-sum
float_to_bits-sum c = nearest_no_nan sums_doubles c.args.numbers.now (sym c.in_ok-sum.ensures)
