-- `weights::grains::grains_of` meets its contract: the shift is from 22 to 52. Assumes nothing.
use mathlib.Core.Path.{sym}
use native.Mathlib.Omega.{arith}
use Rattle.kinds.specs.Limits.{doubles}
use Rattle.weights.proofs.WeightLaws.{below_most}
use Rattle.weights.proofs.FieldLaws.{fine_doubles, weight_none, weight_some}
use Rattle.weights.proofs.grains.grains_of.Goals as goal

pub returns-then-p-lt-GRAIN : goal.returns-then-p-lt-GRAIN
returns-then-p-lt-GRAIN c = (sym (weight_none doubles fine_doubles c.args.p c.requires (omega arith)), omega arith)

pub returns : goal.returns
returns c =
    let e = weight_some doubles fine_doubles c.args.p c.requires (omega arith) in
    (sym e, rw (← e) (below_most doubles fine_doubles c.args.p c.requires))
