-- `pairs::faults::judge_pair` meets its contract: each return is a case of the definition. Assumes nothing.
use Rattle.std.specs.Prelude.{cond, ◌||◌}
use Rattle.std.proofs.Common.{sym, ◌∙◌}
use Rattle.pairs.specs.Limits.{double_pairs}
use Rattle.pairs.proofs.FaultLaws.{pattern_2, a_below, b_below, pattern_ranges}
use Rattle.pairs.proofs.faults.judge_pair.Goals as goal

pub returns-then-a-b : goal.returns-then-a-b
returns-then-a-b c =
    let a = c.args in
    rw (pattern_2 double_pairs (a.p, a.q) c.if-a-b.true)

pub outside-requires : goal.outside-requires
outside-requires c =
    let a = c.args in
    a_below double_pairs (a.p, a.q) c.if-a-b.false

pub outside-requires-2 : goal.outside-requires-2
outside-requires-2 c =
    let a = c.args in
    b_below double_pairs (a.p, a.q) c.if-a-b.false

pub returns-then-outside : goal.returns-then-outside
returns-then-outside c =
    let a = c.args in
    let f = pattern_ranges double_pairs (a.p, a.q) c.if-a-b.false ∙ (λ i. cond (sym c.outside.ensures i || sym c.outside-2.ensures i) 23 0) in
    rw (f, c.if-outside.true)

pub returns : goal.returns
returns c =
    let a = c.args in
    let f = pattern_ranges double_pairs (a.p, a.q) c.if-a-b.false ∙ (λ i. cond (sym c.outside.ensures i || sym c.outside-2.ensures i) 23 0) in
    rw (f, c.if-outside.false)
