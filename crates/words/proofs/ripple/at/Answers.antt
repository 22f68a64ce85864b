-- `words::ripple::at` meets its contract: what the two words' steps leave and the carry that goes on from there, as one. Assumes nothing.
use Rattle.std.proofs.Common.{length-set}
use Rattle.words.proofs.WaysLaws.{gone_two}
use Rattle.words.proofs.ripple.at.Goals as goal

pub returns : goal.returns
returns g c = gone_two _ c.args.k c.args.lo c.args.hi c.requires c.step-low.ensures c.step-high.ensures (simp length-set at c.up.ensures)
