-- `walk::step` meets its contract: a refusal is the gate's, and a block that it lets pass is taken. Assumes nothing.
use Rattle.std.specs.Prelude.{◌≡◌, ℕ}
use Rattle.std.proofs.Common.{sym, subst, ◌∙◌}
use Rattle.std.proofs.lemmas.Result.{err_from_is_err_and}
use Rattle.kinds.specs.Answers.{as_state}
use Rattle.kinds.specs.Verdict.{Good}
use Rattle.sound.specs.Sound.{gated}
use Rattle.sound.proofs.GateLaws.{gated_open}
use Rattle.walk.proofs.StepLaws.{stepped_refused, stepped_good}
use Rattle.walk.proofs.step.Goals as goal

pub accepted-requires : goal.accepted-requires
accepted-requires g c =
    let W = g.F.Floating.width in
    let a = c.args in
    let s = as_state g.F.Floating.value a.s in
    let xs = g.F.Floating.values a.work.now in
    let e = sym c.in_ok-gate.ensures in
    subst (λ (k : ℕ). gated W s k a.block xs ≡ Good) (gated_open W s a.ensemble a.block xs e).named e

pub returns-in_err-gate : goal.returns-in_err-gate
returns-in_err-gate g c =
    let q = err_from_is_err_and c.from_residual.result c.from_residual.ensures.1 in
    let a = c.args in
    rw (q.1, q.2)
    (stepped_refused g.F.Floating.width (as_state g.F.Floating.value a.s) a.block (g.F.Floating.values a.work.now) _ _ _ (sym c.in_err-gate.ensures))

pub returns : goal.returns
returns g c =
    let a = c.args in
    c.accepted.ensures
    ∙ stepped_good g.F.Floating.width (as_state g.F.Floating.value a.s) a.block (g.F.Floating.values a.work.now) _ (sym c.in_ok-gate.ensures)
