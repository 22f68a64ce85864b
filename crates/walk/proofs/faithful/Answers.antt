-- `walk::faithful` meets its contract: a refusal is the judge's, and of an allowed list the call is the undivided walk. Assumes nothing.
use Rattle.std.specs.Prelude.{refl, true, eqb}
use Rattle.std.proofs.Common.{sym, ◌∙◌}
use Rattle.std.proofs.lemmas.Result.{err_from_is_err_and}
use Rattle.kinds.proofs.Areas.{read_length}
use Rattle.judge.specs.Judge.{judged}
use Rattle.rounds.specs.Instances.{fit_of}
use Rattle.walk.specs.OpeningLaws.{opened_refused}
use Rattle.walk.proofs.UndividedLaws.{faithful_refused}
use Rattle.walk.proofs.faithful.Goals as goal

pub undivided-requires : goal.undivided-requires
undivided-requires g c = (sym c.in_ok-greatest.ensures.judged, c.in_ok-greatest.ensures.greatest)

pub returns-in_err-greatest : goal.returns-in_err-greatest
returns-in_err-greatest g c =
    let q = err_from_is_err_and c.from_residual.result c.from_residual.ensures.1 in
    let W = g.F.Floating.width in
    let ps = g.F.Floating.patterns c.args.list.now in
    let xs = g.F.Floating.values c.args.work.now in
    let n = read_length g.F.Floating.pattern g.F.Floating.patterns g.met.F.Floating.each_pattern c.args.list.now in
    let m = read_length g.F.Floating.value g.F.Floating.values g.met.F.Floating.each_value c.args.work.now in
    rw (q.1, q.2)
    (faithful_refused (fit_of g.met.F.Floating.known) 0 ps xs _ _
    (opened_refused W 0 _ _ _ ps xs ((λ i. judged W (eqb (m i) (n i)) true ps) ∙ sym c.in_err-greatest.ensures.judged)) _ _ refl)
