-- `walk::run::run` meets its contract: each state of the loop opens a round of the run, and what is left of the run is what follows from it. The measure is
-- the rounds that are left. Assumes nothing.
use Rattle.std.specs.Prelude.{◌≡◌, suc, ◌-◌}
use Rattle.kinds.specs.Answers.{as_state}
use Rattle.kinds.specs.Limits.{blocks_of}
use Rattle.kinds.specs.Outcome.{outcome}
use Rattle.kinds.specs.Step.{More}
use Rattle.extract.specs.Extract.{plus_zero}
use Rattle.rounds.specs.Fitting.{Fitting}
use Rattle.walk.specs.Walk.{rounds_from}
use Rattle.walk.specs.Run.{Running}
use Rattle.walk.proofs.run.run.Given as goal

abbrev pub invariant-loop-next : goal.invariant-loop-next
invariant-loop-next g l =
    let W = g.F.Floating.width in
    let first = as_state g.F.Floating.value l.initial.s in
    let s = as_state g.F.Floating.value l.s in
    let told = plus_zero W.format in
    let blocks = blocks_of W first.n in record {
      fit : Fitting W;
      running : Running W fit first.n s (g.F.Floating.values l.work);
      left : rounds_from W blocks (suc W.rounds - first.rounds) (outcome (More first told) (g.F.Floating.values l.initial.work))
          ≡ rounds_from W blocks (suc W.rounds - s.rounds) (outcome (More s told) (g.F.Floating.values l.work));
    }

abbrev pub decreases-loop-next : goal.decreases-loop-next
decreases-loop-next g l = suc g.F.Floating.width.rounds - l.s.rounds
