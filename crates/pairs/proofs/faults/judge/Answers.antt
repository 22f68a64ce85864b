-- `pairs::faults::judge` meets its contract: each return is a case of the definition. Assumes nothing.
use mathlib.Core.Path.{◌≡◌, sym, ◌∙◌}
use mathlib.Core.Bool.{Bool, true}
use Prim.Native.Nat.{◌≤◌}
use lib.Dec.{T}
use lib.ListN.{length}
use Rattle.pairs.specs.Limits.{double_pairs}
use Rattle.pairs.proofs.JudgedLaws.{either_above, neither_above, judged_1, judged_22, judged_4, judged_passed}
use Rattle.pairs.proofs.faults.judge.Goals as goal

is_so : {b : Bool} → b ≡ true → T b
is_so e = rw e tt

pub returns-then-a-b : goal.returns-then-a-b
returns-then-a-b c =
    let a = c.args in
    sym (judged_1 double_pairs a.area a.a.now a.b.now (either_above double_pairs.length (length a.a.now) (length a.b.now) c.if-a-b.true))

pub returns-then-a-b-2 : goal.returns-then-a-b-2
returns-then-a-b-2 c =
    let a = c.args in
    let few = neither_above double_pairs.length (length a.a.now) (length a.b.now) c.if-a-b.false in
    sym (judged_22 double_pairs a.area a.a.now a.b.now few.0 few.1 c.if-a-b-2.true)

pub returns-then-not-area : goal.returns-then-not-area
returns-then-not-area c =
    let a = c.args in
    let few = neither_above double_pairs.length (length a.a.now) (length a.b.now) c.if-a-b.false in
    sym (judged_4 double_pairs a.area a.a.now a.b.now few.0 few.1 c.if-a-b-2.false (rw c.if-not-area.true tt))

pub first_fault-requires : goal.first_fault-requires
first_fault-requires c =
    let a = c.args in
    let few = neither_above double_pairs.length (length a.a.now) (length a.b.now) c.if-a-b.false in
    (few.0, c.if-a-b-2.false)

pub returns : goal.returns
returns c =
    let a = c.args in
    let few = neither_above double_pairs.length (length a.a.now) (length a.b.now) c.if-a-b.false in
    c.first_fault.ensures
    ∙ sym (judged_passed double_pairs a.area a.a.now a.b.now few.0 few.1 c.if-a-b-2.false
    (rw c.if-not-area.false tt))
