-- `pairs::faults::outside` meets its contract: patterns lie in the order of their magnitudes. Assumes nothing.
use native.Mathlib.Omega.{arith}
use Rattle.pairs.specs.Limits.{double_pairs}
use Rattle.pairs.proofs.FaultLaws.{proper_doubles, plain_test}
use Rattle.pairs.proofs.faults.outside.Goals as goal

pub returns : goal.returns
returns c = plain_test double_pairs c.args.m (omega arith) proper_doubles
