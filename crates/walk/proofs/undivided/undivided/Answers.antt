-- `walk::undivided::undivided` meets its contract: the opening's answer decides, and its state opens the run over the list's floats. Assumes nothing.
use Rattle.std.specs.Prelude.{◌≡◌, refl, true, eqb, length}
use Rattle.std.proofs.Common.{sym, ap, ◌∙◌, arith, eqb→eq}
use Rattle.kinds.specs.Answers.{as_given}
use Rattle.kinds.specs.Outcome.{outcome}
use Rattle.kinds.specs.Step.{Step}
use Rattle.kinds.specs.Verdict.{Good}
use Rattle.kinds.proofs.Areas.{read_length}
use Rattle.judge.specs.Judge.{floats, judged}
use Rattle.judge.specs.Table.{ListWhen}
use Rattle.judge.proofs.JudgeLaws.{list_when, list_passed, list_allowed}
use Rattle.judge.proofs.FirstFaultLaws.{first_good}
use Rattle.extract.specs.Extract.{plus_zero}
use Rattle.rounds.specs.Instances.{fit_of}
use Rattle.walk.specs.Walk.{opened}
use Rattle.walk.specs.OpeningLaws.{opened_judged}
use Rattle.walk.proofs.UndividedLaws.{faithful_done, faithful_running, faithful_more}
use Rattle.walk.proofs.undivided.undivided.Goals as goal

pub first-requires : goal.first-requires
first-requires g c =
    let W = g.F.Floating.width in
    let ps = g.F.Floating.patterns c.args.list.now in
    let n = read_length g.F.Floating.pattern g.F.Floating.patterns g.met.F.Floating.each_pattern c.args.list.now in
    let good : ListWhen W (eqb (length c.args.work.now) (length c.args.list.now)) true ps Good = (list_when W _ true ps Good).0 c.requires.0 in
    (omega (arith, n, (list_passed good).few), (first_good W ps).1 (list_allowed good), c.requires.1)

pub from_list-requires : goal.from_list-requires
from_list-requires g c =
    let W = g.F.Floating.width in
    let v = g.F.Floating.value in
    let ps = g.F.Floating.patterns c.args.list.now in
    let xs = g.F.Floating.values c.args.work.now in
    let F = fit_of g.met.F.Floating.known in
    let n = read_length g.F.Floating.pattern g.F.Floating.patterns g.met.F.Floating.each_pattern c.args.list.now in
    let m = read_length v g.F.Floating.values g.met.F.Floating.each_value c.args.work.now in
    let good : ListWhen W (eqb (length c.args.work.now) (length c.args.list.now)) true ps Good = (list_when W _ true ps Good).0 c.requires.0 in
    let opening : outcome (as_given v c.first.result) (floats W ps) ≡ opened W 0 ps xs =
    opened_judged W 0 ps xs ((λ i. judged W (eqb (m i) (n i)) true ps) ∙ c.requires.0) refl c.first.ensures in (
      eqb→eq _ _ (list_passed good).right_area,
      (first_good W ps).1 (list_allowed good),
      F,
      faithful_running F 0 ps xs _ _ opening _ _ (ap (as_given v) c.in-More.is),
    )

pub copy-requires : goal.copy-requires
copy-requires g c =
    let W = g.F.Floating.width in
    let ps = g.F.Floating.patterns c.args.list.now in
    let good : ListWhen W (eqb (length c.args.work.now) (length c.args.list.now)) true ps Good = (list_when W _ true ps Good).0 c.requires.0 in
    (eqb→eq _ _ (list_passed good).right_area, (first_good W ps).1 (list_allowed good))

pub returns-in-More : goal.returns-in-More
returns-in-More g c =
    let W = g.F.Floating.width in
    let v = g.F.Floating.value in
    let ps = g.F.Floating.patterns c.args.list.now in
    let xs = g.F.Floating.values c.args.work.now in
    let n = read_length g.F.Floating.pattern g.F.Floating.patterns g.met.F.Floating.each_pattern c.args.list.now in
    let m = read_length v g.F.Floating.values g.met.F.Floating.each_value c.args.work.now in
    let opening : outcome (as_given v c.first.result) (floats W ps) ≡ opened W 0 ps xs =
    opened_judged W 0 ps xs ((λ i. judged W (eqb (m i) (n i)) true ps) ∙ c.requires.0) refl c.first.ensures in
    c.from_list.ensures
    ∙ faithful_more (fit_of g.met.F.Floating.known) 0 ps xs _ _ opening _ _ (ap (as_given v) c.in-More.is) (plus_zero W.format)

pub returns-in-Done : goal.returns-in-Done
returns-in-Done g c =
    let W = g.F.Floating.width in
    let v = g.F.Floating.value in
    let ps = g.F.Floating.patterns c.args.list.now in
    let xs = g.F.Floating.values c.args.work.now in
    let n = read_length g.F.Floating.pattern g.F.Floating.patterns g.met.F.Floating.each_pattern c.args.list.now in
    let m = read_length v g.F.Floating.values g.met.F.Floating.each_value c.args.work.now in
    let done = ap (as_given v) c.in-Done.is in
    let e = opened_judged W 0 ps xs ((λ i. judged W (eqb (m i) (n i)) true ps) ∙ c.requires.0) c.copy.ensures c.first.ensures in
    ap (λ (q : Step). outcome q (g.F.Floating.values c.copy.new.work)) (sym done)
    ∙ faithful_done (fit_of g.met.F.Floating.known) 0 ps xs _ _ e _ _ done
