-- `weights::grains::is_weight` meets its contract: a pattern up to that of 1 is a weight where its grains lead back to it. Assumes nothing.
use mathlib.Core.Path.{sym, ap, ◌∙◌}
use Prim.Native.Nat.{ℕ}
use native.Mathlib.Omega.{arith}
use lib.Dec.{eqb}
use Rattle.kinds.specs.Limits.{doubles}
use Rattle.weights.specs.Weights.{pattern_for}
use Rattle.weights.proofs.WeightLaws.{good_not_above, good_back}
use Rattle.weights.proofs.FieldLaws.{fine_doubles}
use Rattle.weights.proofs.grains.is_weight.Goals as goal

pub returns-then-p-gt-ONE : goal.returns-then-p-gt-ONE
returns-then-p-gt-ONE c = sym (good_not_above doubles fine_doubles c.args.p (omega arith))

pub returns : goal.returns
returns c =
    let p = c.args.p in
    ap (λ (q : ℕ). eqb q p) (c.pattern.ensures ∙ ap (pattern_for doubles) c.grains_of.ensures.0)
    ∙ good_back doubles fine_doubles p (omega arith)
