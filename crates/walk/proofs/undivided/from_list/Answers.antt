-- `walk::undivided::from_list` meets its contract: the first round is one of the run over the list's floats, and what follows is the run's. Assumes nothing.
use Rattle.std.specs.Prelude.{◌≡◌, refl}
use Rattle.std.proofs.Common.{sym, ap, ◌∙◌}
use Rattle.kinds.specs.Answers.{as_state, as_given}
use Rattle.extract.specs.Extract.{plus_zero, last_sum}
use Rattle.rounds.specs.Round.{closed}
use Rattle.rounds.specs.Begun.{begun_takable}
use Rattle.walk.specs.Run.{walk_closable, walk_ends, walk_own, walk_on}
use Rattle.walk.proofs.undivided.from_list.Goals as goal

pub take_list-taken-requires : goal.take_list-taken-requires
take_list-taken-requires g c = (c.requires.0, c.requires.1, begun_takable c.requires.3.begun)

pub close_with-requires : goal.close_with-requires
close_with-requires g c = walk_closable c.requires.3 c.take_list-taken.ensures.0 c.take_list-taken.ensures.2

pub run-requires : goal.run-requires
run-requires g c =
    let W = g.F.Floating.width in
    let v = g.F.Floating.value in
    let T = c.take_list-taken.ensures in
    let closes : as_given v c.close_with.result ≡ closed W (as_state v c.take_list-taken.result.state) (g.F.Floating.values c.take_list-taken.new.work) =
    c.close_with.ensures _ (ap (last_sum W.format) T.2 ∙ sym T.1) in
    (c.requires.2, walk_own c.requires.3 T.0 T.2 (sym (ap (as_given v) c.in-More.is) ∙ closes) _ _ refl)

pub returns-in-More : goal.returns-in-More
returns-in-More g c =
    let W = g.F.Floating.width in
    let v = g.F.Floating.value in
    let T = c.take_list-taken.ensures in
    let told = plus_zero W.format in
    let closes : as_given v c.close_with.result ≡ closed W (as_state v c.take_list-taken.result.state) (g.F.Floating.values c.take_list-taken.new.work) =
    c.close_with.ensures _ (ap (last_sum W.format) T.2 ∙ sym T.1) in
    walk_on c.requires.3 T.0 T.2 (sym (ap (as_given v) c.in-More.is) ∙ closes) _ _ refl told told c.run.ensures

pub returns-in-Done : goal.returns-in-Done
returns-in-Done g c =
    let W = g.F.Floating.width in
    let v = g.F.Floating.value in
    let T = c.take_list-taken.ensures in
    let closes : as_given v c.close_with.result ≡ closed W (as_state v c.take_list-taken.result.state) (g.F.Floating.values c.take_list-taken.new.work) =
    c.close_with.ensures _ (ap (last_sum W.format) T.2 ∙ sym T.1) in
    walk_ends c.requires.3 T.0 T.2 (sym (ap (as_given v) c.in-Done.is) ∙ closes) _ _ _ refl
