-- `grade_calls::graded` meets its contract: each grade is its number, and what is refused is one of the table's. Assumes nothing.
use Rattle.std.specs.Prelude.{◌≡◌, [], List, ℕ}
use Rattle.std.proofs.Common.{sym, ap, ◌∙◌}
use Rattle.std.proofs.lemmas.Result.{err_from_is_err_and}
use Rattle.kinds.specs.Outcome.{outcome}
use Rattle.grade.specs.declared.grades.Grade.{Grade}
use Rattle.grade.specs.declared.grades.Grade.TheVariants as given
use Rattle.grade.specs.Answers.{as_grade}
use Rattle.grade.specs.Grade.{graded_heard}
use Rattle.arrays.specs.Arrays.{code_of, values_of}
use Rattle.grade_calls.proofs.GradeArraysLaws.{grade_other, grade_answered, grade_refusal}
use Rattle.grade_calls.proofs.graded.Goals as goal

-- a grade is accepted, and its number doesn't hang on what stood in the array
written : (g : Grade) {vs : List ℕ} (out : List ℕ) → vs ≡ values_of (graded_heard (as_grade g)) []
    → outcome 0 vs ≡ outcome (code_of (graded_heard (as_grade g))) (values_of (graded_heard (as_grade g)) out)
written given.Exact out e = ap (outcome 0) e
written given.Nearest out e = ap (outcome 0) e
written given.Faithful out e = ap (outcome 0) e
written given.Wrong out e = ap (outcome 0) e

pub returns-then-out-ne1-clause-graded : goal.returns-then-out-ne1-clause-graded
returns-then-out-ne1-clause-graded c =
    let a = c.args in
    ap (λ (n : ℕ). outcome n a.out.now) c.too_many_or_4.ensures.code ∙ sym (grade_other a.list.now a.claim a.out.now c.if-out-ne1.true)

pub returns-in_err-grade-clause-told : goal.returns-in_err-grade-clause-told
returns-in_err-grade-clause-told c =
    let q = err_from_is_err_and c.from_residual.result c.from_residual.ensures.1 in
    rw (q.1, q.2) (grade_refusal c.args.list.now c.args.claim _ _ (sym c.in_err-grade.ensures)).place

pub returns-in_err-grade-clause-graded : goal.returns-in_err-grade-clause-graded
returns-in_err-grade-clause-graded c =
    let q = err_from_is_err_and c.from_residual.result c.from_residual.ensures.1 in
    let a = c.args in
    rw (q.1, q.2) (sym (grade_answered a.list.now a.claim a.out.now c.if-out-ne1.false _ (sym c.in_err-grade.ensures)))

pub returns-clause-graded : goal.returns-clause-graded
returns-clause-graded c =
    let a = c.args in
    written c.in_ok-grade.grade a.out.now (c.copy_from_slice.ensures.after ∙ c.value.ensures)
    ∙ sym (grade_answered a.list.now a.claim a.out.now c.if-out-ne1.false _ (sym c.in_ok-grade.ensures))
