-- `weights::bad_weight` meets its contract: the first pattern that fails the test is the first that is no weight. Assumes nothing.
use Rattle.std.specs.Prelude.{not}
use Rattle.std.proofs.Common.{rules, tests}
use Rattle.std.proofs.lemmas.Iterator.{YieldsList-from_slice}
use Rattle.std.proofs.lemmas.Iterator.Search.{position_from_yields_List}
use Rattle.kinds.specs.Limits.{doubles}
use Rattle.weights.specs.Weights.{weight_good}
use Rattle.weights.proofs.LoopLaws.{bad_position}
use Rattle.weights.proofs.bad_weight.Goals as goal

pub returns : goal.returns
returns c =
    rw (bad_position doubles c.args.list.now)
    (position_from_yields_List (λ p. not (weight_good doubles p)) _ _ _ c.position.ensures.ran (YieldsList-from_slice c.args.list.now cc)
    (λ x b q k. search (rules, tests)))
