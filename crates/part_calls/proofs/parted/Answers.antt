-- `part_calls::parted` meets its contract: what is refused is one of the table's. Assumes nothing.
use Rattle.std.specs.Prelude.{◌≡◌, refl, Bool, cond, [], ◌∷◌, ℕ, Float}
use Rattle.std.proofs.Common.{rules, sym, ap, ◌∙◌}
use Rattle.std.proofs.lemmas.Result.{err_from_is_err_and}
use Rattle.kinds.specs.Heard.{parted_heard}
use Rattle.kinds.specs.Outcome.{Outcome}
use Rattle.kinds.specs.Parted.{Parted, Parts, Refused}
use Rattle.arrays.specs.Arrays.{values_of, returned}
use Rattle.arrays.proofs.ArraysLaws.{heard_returned}
use Rattle.part_calls.proofs.PartArraysLaws.{parts_other, parts_parted, parts_refusal}
use Rattle.part_calls.proofs.parted.Goals as goal

pub returns-then-out-ne1-clause-parted : goal.returns-then-out-ne1-clause-parted
returns-then-out-ne1-clause-parted c =
    let a = c.args in
    ap (λ (n : ℕ). returned n a.parts.now a.out.now) c.too_many_or_4.ensures.code ∙ sym (parts_other a.list.now a.parts.now a.out.now c.if-out-ne1.true)

pub returns-in_err-all-clause-told : goal.returns-in_err-all-clause-told
returns-in_err-all-clause-told c =
    let q = err_from_is_err_and c.from_residual.result c.from_residual.ensures.1 in
    let answered = ap (λ (w : Outcome Parted Float). w.answer) c.in_err-all.ensures in
    rw (q.1, q.2) (parts_refusal c.args.list.now c.args.parts.now _ _ (sym answered)).place

pub returns-in_err-all-clause-parted : goal.returns-in_err-all-clause-parted
returns-in_err-all-clause-parted c =
    let q = err_from_is_err_and c.from_residual.result c.from_residual.ensures.1 in
    let a = c.args in
    rw (q.1, q.2)
    (heard_returned parted_heard values_of a.out.now (Refused _ _) refl refl c.in_err-all.ensures refl
    ∙ sym (parts_parted a.list.now a.parts.now a.out.now c.if-out-ne1.false))

byte : (b : Bool) {n : ℕ} → n ≡ cond b 1 0 → n ∷ [] ≡ values_of (parted_heard (Parts b)) []
byte b e = ap (λ (n : ℕ). n ∷ []) e

pub returns-clause-parted : goal.returns-clause-parted
returns-clause-parted c =
    let a = c.args in
    let one : c.from.result ≡ cond c.in_ok-all.all 1 0 = search rules in
    heard_returned parted_heard values_of a.out.now (Parts c.in_ok-all.all) refl (c.copy_from_slice.ensures.after ∙ byte c.in_ok-all.all one)
    c.in_ok-all.ensures refl
    ∙ sym (parts_parted a.list.now a.parts.now a.out.now c.if-out-ne1.false)
