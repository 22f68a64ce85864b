-- `step_calls::inner::step` meets its contract: numbers that no state has are none of a sound state's, and what is refused is one of the table's.
-- Assumes nothing.
use Rattle.std.proofs.Common.{sym, ap, ◌∙◌, arith}
use Rattle.std.proofs.lemmas.Result.{err_from_is_err_and}
use Rattle.kinds.proofs.Areas.{read_length}
use Rattle.kinds.proofs.KnownLaws.{figures}
use Rattle.rounds.specs.Instances.{fit_of}
use Rattle.walk.specs.Walk.{Walked}
use Rattle.step_calls.proofs.StepArraysLaws.{called, step_length, step_stranger, step_unreadable, step_place}
use Rattle.step_calls.proofs.inner.step.Goals as goal

pub returns-then-work-state-clause-returned : goal.returns-then-work-state-clause-returned
returns-then-work-state-clause-returned g c =
    let a = c.args in
    let n = read_length g.F.Floating.value g.F.Floating.values g.met.F.Floating.each_value a.work.now in
    step_length (fit_of g.met.F.Floating.known) a.state.now (g.F.Floating.values a.work.now) a.ensemble a.block c.if-state-ne-NUMBERS.false
    (λ e. omega (arith, n, e))

pub returns-then-from-state-clause-returned : goal.returns-then-from-state-clause-returned
returns-then-from-state-clause-returned g c =
    let a = c.args in
    let n = read_length g.F.Floating.value g.F.Floating.values g.met.F.Floating.each_value a.work.now in
    step_stranger (fit_of g.met.F.Floating.known) a.state.now (g.F.Floating.values a.work.now) a.ensemble a.block c.if-state-ne-NUMBERS.false
    (n ∙ c.if-work-state.false) (λ e. c.if-from-state.true (c.from.ensures ∙ e))

pub returns-in_default-clause-returned : goal.returns-in_default-clause-returned
returns-in_default-clause-returned g c =
    let a = c.args in
    let n = read_length g.F.Floating.value g.F.Floating.values g.met.F.Floating.each_value a.work.now in
    step_unreadable (fit_of g.met.F.Floating.known) a.state.now (g.F.Floating.values a.work.now) a.ensemble a.block c.if-state-ne-NUMBERS.false
    (called g.met.F.Floating.known) (n ∙ c.if-work-state.false) (sym c.from.ensures ∙ c.if-from-state.false) c.ranges.ensemble.fits c.in_default.ensures

pub returns-in_err-step-clause-told : goal.returns-in_err-step-clause-told
returns-in_err-step-clause-told g c =
    let q = err_from_is_err_and c.from_residual.result c.from_residual.ensures.1 in
    let answered = ap (λ (x : Walked). x.answer) (sym c.in_err-step.ensures) in
    rw (q.1, q.2) (step_place _ (figures g.met.F.Floating.known).few (fit_of g.met.F.Floating.known) _ _ _ _ _ _ answered)
