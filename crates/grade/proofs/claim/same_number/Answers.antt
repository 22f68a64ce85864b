-- `grade::claim::same_number` meets its contract: only zeros have two patterns. Assumes nothing.
use native.Mathlib.Omega.{arith}
use lib.Ieee.{binary64}
use Rattle.grade.proofs.PatternLaws.{one_number}
use Rattle.grade.proofs.claim.same_number.Goals as goal

pub returns : goal.returns
returns c = one_number binary64 c.args.p c.args.q (omega arith) (omega arith) c.requires.0 c.requires.1
