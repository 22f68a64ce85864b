-- `walk::accepted::accepted` meets its contract: what a block leaves is what a close asks, for every sound state. Assumes nothing.
use Rattle.std.proofs.Common.{sym, ◌∙◌}
use Rattle.kinds.specs.Answers.{as_state}
use Rattle.kinds.proofs.Areas.{read_length}
use Rattle.sound.specs.AdmittedLaws.{Admitted}
use Rattle.walk.proofs.Admitted.{admits, admitted_takable, admitted_closable}
use Rattle.rounds.specs.Instances.{fit_of}
use Rattle.walk.proofs.StepLaws.{taken_closes, taken_goes}
use Rattle.walk.proofs.accepted.accepted.Goals as goal

pub take-next-requires : goal.take-next-requires
take-next-requires g c =
    let W = g.F.Floating.width in
    let v = g.F.Floating.value in
    let read = g.F.Floating.values in
    let a = c.args in
    let F = fit_of g.met.F.Floating.known in
    let s = as_state v a.s in
    let through : Admitted W F.top s a.block (read a.work.now) = admits F s s.ensemble a.block (read a.work.now) c.held.ensures c.requires in
    let n = read_length v read g.met.F.Floating.each_value a.work.now in
    (through.numbers.counts.few, sym n ∙ through.long, through.inside, admitted_takable F through c.held-3.ensures)

pub close-requires : goal.close-requires
close-requires g c =
    let W = g.F.Floating.width in
    let v = g.F.Floating.value in
    let read = g.F.Floating.values in
    let a = c.args in
    let F = fit_of g.met.F.Floating.known in
    let s = as_state v a.s in
    let through : Admitted W F.top s a.block (read a.work.now) = admits F s s.ensemble a.block (read a.work.now) c.held.ensures c.requires in
    rw c.take-next.ensures.0 (admitted_closable F through c.held-3.ensures c.held-2.ensures)

pub returns-then-last : goal.returns-then-last
returns-then-last g c =
    let v = g.F.Floating.value in
    let a = c.args in
    let N = c.take-next in
    taken_closes g.F.Floating.width (as_state v a.s) a.block (g.F.Floating.values a.work.now) (as_state v N.result) _ N.ensures.0 N.ensures.1 _
    c.if-last.true c.close.ensures

pub returns : goal.returns
returns g c =
    let v = g.F.Floating.value in
    let a = c.args in
    let N = c.take-next in
    taken_goes g.F.Floating.width (as_state v a.s) a.block (g.F.Floating.values a.work.now) (as_state v N.result) _ N.ensures.0 N.ensures.1
    c.if-last.false
