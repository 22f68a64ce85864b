-- `weights::judged` meets its contract: the list's own refusal comes first. Assumes nothing.
use Rattle.std.specs.Prelude.{true}
use Rattle.std.proofs.Common.{sym}
use Rattle.kinds.specs.Limits.{doubles}
use Rattle.kinds.specs.Verdict.{Good}
use Rattle.judge.proofs.JudgeLaws.{list_when, list_passed}
use Rattle.weights.proofs.judged.Goals as goal

pub weighed-requires : goal.weighed-requires
weighed-requires c = (list_passed ((list_when doubles _ true _ Good).0 (sym c.in_ok-judge.ensures))).few
