-- `grade::claim::other_side` meets its contract: above a finite pattern there is another. Assumes nothing.
use native.Mathlib.Omega.{arith}
use Rattle.grade.proofs.PatternLaws.{above_finite}
use Rattle.grade.proofs.claim.other_side.Goals as goal

pub overflow_add-result : goal.overflow_add-result
overflow_add-result c = record { fits = above_finite (omega arith) c.requires.1 }
