-- `pair_calls::weighted` meets its contract: what is refused is one of the table's. Assumes nothing.
use Rattle.std.specs.Prelude.{ℕ}
use Rattle.std.proofs.Common.{sym, ap, subst, ◌∙◌}
use Rattle.kinds.specs.Limits.{doubles}
use Rattle.kinds.specs.Outcome.{outcome}
use Rattle.kinds.specs.Heard.{nearest_heard}
use Rattle.kinds.specs.Nearest.{Nearest}
use Rattle.arrays.specs.Arrays.{code_of, values_of}
use Rattle.arrays.specs.Inner.{NearestRefusal}
use Rattle.pair_calls.proofs.PairArraysLaws.{weighted_other, weighted_called, weighted_refusal}
use Rattle.pair_calls.proofs.weighted.Goals as goal

pub returns-then-out-ne1-clause-weighted : goal.returns-then-out-ne1-clause-weighted
returns-then-out-ne1-clause-weighted c =
    let a = c.args in
    ap (λ (n : ℕ). outcome n a.out.now) c.other_length.ensures.code ∙ sym (weighted_other a.a.now a.b.now a.out.now c.if-out-ne1.true)

pub nearest-requires-2 : goal.nearest-requires-2
nearest-requires-2 c =
    let a = c.args in
    (c.if-out-ne1.false, subst NearestRefusal (sym c.nearest.ensures) (weighted_refusal a.a.now a.b.now))

pub returns-clause-weighted : goal.returns-clause-weighted
returns-clause-weighted c =
    let a = c.args in
    c.nearest-2.ensures.written
    ∙ ap (λ (n : Nearest). outcome (code_of (nearest_heard doubles n)) (values_of (nearest_heard doubles n) a.out.now)) c.nearest.ensures
    ∙ sym (weighted_called a.a.now a.b.now a.out.now c.if-out-ne1.false)
