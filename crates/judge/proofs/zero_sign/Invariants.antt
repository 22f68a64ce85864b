-- `judge::zero_sign` meets its contract: the patterns passed are all that of -0, so the first other one decides, and where there is none the length. Assumes
-- nothing.
use Rattle.std.specs.Prelude.{true, eqb}
use Rattle.lists.specs.Every.{Looked}
use Rattle.judge.specs.Judge.{minus_pattern}
use Rattle.judge.proofs.zero_sign.Given as goal

abbrev pub invariant-loop-p : goal.invariant-loop-p
invariant-loop-p g l = Looked (eqb (minus_pattern g.F.Floating.width)) (g.F.Floating.patterns l.list) true l.p-index
