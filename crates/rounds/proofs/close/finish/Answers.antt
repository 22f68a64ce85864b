-- `rounds::close::finish` meets its contract: its operations are those of rule W3. Assumes nothing.
use Rattle.std.specs.Prelude.{◌≡◌}
use Rattle.std.proofs.Common.{◌∙◌}
use Rattle.std.specs.Float.Ieee.{add, sub}
use Rattle.kinds.specs.Answers.{as_state}
use Rattle.rounds.specs.ClosedLaws.{tau1_of, finish_closes}
use Rattle.rounds.proofs.close.finish.Goals as goal

pub returns : goal.returns
returns g c xs h =
    let f = g.F.Floating.width.format in
    let v = g.F.Floating.value in
    let s = as_state v c.args.s in
    let tau1 = tau1_of g.F.Floating.width s in
    let added = g.met.F.Floating.added in
    let subtracted = g.met.F.Floating.subtracted in
    let sum : v c.add-2.result ≡ add f tau1 (add f (sub f s.tau (sub f tau1 s.t)) (v c.args.sum)) =
    added _ _ _ c.add-2.ensures
    ∙ rw (added _ _ _ c.add.ensures, subtracted _ _ _ c.sub-tau2.ensures, subtracted _ _ _ c.sub.ensures, added _ _ _ c.add-tau1.ensures) in
    rw sum (finish_closes g.F.Floating.width s (v c.args.sum) c.requires.1 xs h)
