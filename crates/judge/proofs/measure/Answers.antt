-- `judge::measure` meets its contract: each return is a case of the definition, and the greatest pattern of a good list is told. Assumes nothing.
use Rattle.std.proofs.Common.{sym, ap, ◌∙◌, arith}
use Rattle.std.proofs.lemmas.Result.{err_from_is_err_and}
use Rattle.kinds.specs.Answers.{as_verdict}
use Rattle.kinds.proofs.Areas.{read_length}
use Rattle.kinds.proofs.KnownLaws.{figures}
use Rattle.judge.specs.GreatestLaws.{greatest_good}
use Rattle.judge.specs.Table.{Passed}
use Rattle.judge.proofs.JudgeCases.{judged_1, judged_4, judged_5, judged_passed}
use Rattle.judge.proofs.measure.Goals.{then-MAGNITUDE-word+in_ok-first_fault, else-MAGNITUDE-word}
use Rattle.judge.proofs.measure.Goals as goal

pub returns-then-LENGTH-list-clause-judged : goal.returns-then-LENGTH-list-clause-judged
returns-then-LENGTH-list-clause-judged g c =
    let a = c.args in
    let K = figures g.met.F.Floating.known in
    let n = read_length g.F.Floating.pattern g.F.Floating.patterns g.met.F.Floating.each_pattern a.list.now in
    sym (judged_1 g.F.Floating.width a.area a.parts (g.F.Floating.patterns a.list.now) (rw (n, ← K.length, ← c.LENGTH.ensures) c.if-LENGTH-list.true))

pub returns-then-not-area-clause-judged : goal.returns-then-not-area-clause-judged
returns-then-not-area-clause-judged g c =
    let a = c.args in
    let K = figures g.met.F.Floating.known in
    let n = read_length g.F.Floating.pattern g.F.Floating.patterns g.met.F.Floating.each_pattern a.list.now in
    sym (judged_4 g.F.Floating.width a.area a.parts (g.F.Floating.patterns a.list.now)
    (rw (n, ← K.length, ← c.LENGTH.ensures) (omega (arith, c.if-LENGTH-list.false))) (rw c.if-not-area.true tt))

pub returns-then-not-parts-clause-judged : goal.returns-then-not-parts-clause-judged
returns-then-not-parts-clause-judged g c =
    let a = c.args in
    let K = figures g.met.F.Floating.known in
    let n = read_length g.F.Floating.pattern g.F.Floating.patterns g.met.F.Floating.each_pattern a.list.now in
    sym (judged_5 g.F.Floating.width a.area a.parts (g.F.Floating.patterns a.list.now)
    (rw (n, ← K.length, ← c.LENGTH.ensures) (omega (arith, c.if-LENGTH-list.false))) (rw c.if-not-area.false tt) (rw c.if-not-parts.true tt))

pub first_fault-requires : goal.first_fault-requires
first_fault-requires g c = let K = figures g.met.F.Floating.known in rw (← K.length, ← c.LENGTH.ensures) (omega (arith, c.if-LENGTH-list.false))

pub returns-in_err-first_fault-clause-judged : goal.returns-in_err-first_fault-clause-judged
returns-in_err-first_fault-clause-judged g c =
    let q = err_from_is_err_and c.from_residual.result c.from_residual.ensures.1 in
    let a = c.args in
    let ps = g.F.Floating.patterns a.list.now in
    let K = figures g.met.F.Floating.known in
    let n = read_length g.F.Floating.pattern g.F.Floating.patterns g.met.F.Floating.each_pattern a.list.now in
    let passed : Passed g.F.Floating.width a.area a.parts ps = record {
      few = rw (n, ← K.length, ← c.LENGTH.ensures) (omega (arith, c.if-LENGTH-list.false));
      right_area = rw c.if-not-area.false tt;
      right_parts = rw c.if-not-parts.false tt;
    } in
    rw (q.1, q.2) (c.in_err-first_fault.ensures ∙ sym (judged_passed g.F.Floating.width a.area a.parts ps passed))

pub returns-clause-judged : goal.returns-clause-judged
returns-clause-judged g c =
    let a = c.args in
    let W = g.F.Floating.width in
    let ps = g.F.Floating.patterns a.list.now in
    let K = figures g.met.F.Floating.known in
    let n = read_length g.F.Floating.pattern g.F.Floating.patterns g.met.F.Floating.each_pattern a.list.now in
    let passed : Passed W a.area a.parts ps = record {
      few = rw (n, ← K.length, ← c.LENGTH.ensures) (omega (arith, c.if-LENGTH-list.false));
      right_area = rw c.if-not-area.false tt;
      right_parts = rw c.if-not-parts.false tt;
    } in
    elim c.if-MAGNITUDE-word.branch [
      | then-MAGNITUDE-word+in_ok-first_fault w ↦ sym
          (judged_passed W a.area a.parts ps passed ∙ sym w.first_fault.ensures ∙ ap as_verdict w.in_ok-first_fault.was)
      | else-MAGNITUDE-word w ↦ sym
          (judged_passed W a.area a.parts ps passed
          ∙ greatest_good W K.proper ps 0
          (omega (arith, w.if-MAGNITUDE-word.false, K.magnitude, c.MAGNITUDE.ensures, c.greatest-most.ensures, c.word.ensures.word)))
    ]
