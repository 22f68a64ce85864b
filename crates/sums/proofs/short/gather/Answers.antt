-- `sums::short::gather` meets its contract: after i numbers the words are the two sides of the first i. Assumes nothing.
use mathlib.Core.Path.{◌∙◌}
use Rattle.kinds.specs.Limits.{doubles}
use Rattle.judge.specs.FaultLaws.{allowed_number}
use Rattle.sums.proofs.SumLaws.{sums_doubles}
use Rattle.sums.proofs.SideSums.{gathers}
use Rattle.sums.proofs.short.gather.Goals as goal

pub add-requires : goal.add-requires
add-requires c = (c.loop-p.invariant.0, (allowed_number doubles _ (c.requires.2.none c.loop-p.p-index c.loop-p-test.true)).fini)

pub loop-p-preserved : goal.loop-p-preserved
loop-p-preserved c =
    let v = c.loop-p.invariant in (
      c.add.auto.words ∙ v.0,
      gathers sums_doubles c.requires.3 c.requires.2 c.loop-p.p-index c.loop-p-test.true v.0 v.1 c.add.ensures,
      record { below = λ i. (c.type_inv.both i).fits },
    )
