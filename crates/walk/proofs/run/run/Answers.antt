-- `walk::run::run` meets its contract: each state of the loop opens a round of the run, and what is left of the run is what follows from it. The measure is
-- the rounds that are left. Assumes nothing.
use Rattle.std.specs.Prelude.{refl}
use Rattle.std.proofs.Common.{sym, ap, ◌∙◌}
use Rattle.kinds.specs.Answers.{as_given}
use Rattle.extract.specs.Extract.{plus_zero}
use Rattle.walk.specs.Run.{walk_closable, walk_ends, walk_goes, walk_running, walk_lower}
use Rattle.walk.proofs.run.run.Goals as goal

pub loop-next-init : goal.loop-next-init
loop-next-init g c = record { fit = c.requires.0; running = c.requires.1; left = refl }

pub take_all-taken-requires : goal.take_all-taken-requires
take_all-taken-requires g c = let I = c.loop-next.invariant in (I.fit, I.running.e, I.running.begun)

pub close-requires : goal.close-requires
close-requires g c = walk_closable c.loop-next.invariant.running c.take_all-taken.ensures.0 c.take_all-taken.ensures.1

pub loop-next-smaller : goal.loop-next-smaller
loop-next-smaller g c =
    let closes = sym (ap (as_given g.F.Floating.value) c.in-More.is) ∙ c.close.ensures in
    walk_lower c.loop-next.invariant.running c.take_all-taken.ensures.0 c.take_all-taken.ensures.1 closes _ _ refl

pub loop-next-preserved : goal.loop-next-preserved
loop-next-preserved g c =
    let I = c.loop-next.invariant in
    let T = c.take_all-taken.ensures.0 in
    let Y = c.take_all-taken.ensures.1 in
    let closes = sym (ap (as_given g.F.Floating.value) c.in-More.is) ∙ c.close.ensures in
    let told = plus_zero g.F.Floating.width.format in record {
      fit = I.fit;
      running = walk_running I.running T Y closes _ _ refl;
      left = I.left ∙ walk_goes I.running T Y closes _ _ refl told told;
    }

pub returns-in-Done : goal.returns-in-Done
returns-in-Done g c =
    let I = c.loop-next.invariant in
    let closes = sym (ap (as_given g.F.Floating.value) c.in-Done.is) ∙ c.close.ensures in
    walk_ends I.running c.take_all-taken.ensures.0 c.take_all-taken.ensures.1 closes _ _ _ refl ∙ sym I.left
