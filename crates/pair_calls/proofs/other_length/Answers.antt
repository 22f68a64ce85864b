-- `pair_calls::other_length` meets its contract: each return is a row of its table. Assumes nothing.
use mathlib.Core.Path.{sym}
use lib.ListN.{length}
use Rattle.pairs.specs.Limits.{double_pairs}
use Rattle.pairs.proofs.JudgedLaws.{either_above, neither_above}
use Rattle.pair_calls.specs.PairArrays.{too_many, unlike, otherwise}
use Rattle.pair_calls.proofs.PairArraysLaws.{other_when}
use Rattle.pair_calls.proofs.other_length.Goals as goal

pub returns-then-a-b-clause-code : goal.returns-then-a-b-clause-code
returns-then-a-b-clause-code c =
    let a = c.args in
    sym ((other_when a.a.now a.b.now 1).1
    (too_many (either_above double_pairs.length (length a.a.now) (length a.b.now) c.if-a-b.true)))

pub returns-then-a-b-2-clause-code : goal.returns-then-a-b-2-clause-code
returns-then-a-b-2-clause-code c =
    let a = c.args in
    let few = neither_above double_pairs.length (length a.a.now) (length a.b.now) c.if-a-b.false in
    sym ((other_when a.a.now a.b.now 22).1 (unlike few.0 few.1 c.if-a-b-2.true))

pub returns-clause-code : goal.returns-clause-code
returns-clause-code c =
    let a = c.args in
    let few = neither_above double_pairs.length (length a.a.now) (length a.b.now) c.if-a-b.false in
    sym ((other_when a.a.now a.b.now 4).1 (otherwise few.0 c.if-a-b-2.false))
