-- `weights::share::weight_at` meets its contract: the leaver's place holds 0, and any other its own weight. Assumes nothing.
use Rattle.kinds.specs.Limits.{doubles}
use Rattle.weights.proofs.WeightLaws.{good_below}
use Rattle.weights.proofs.FieldLaws.{fine_doubles}
use Rattle.weights.proofs.share.weight_at.Goals as goal

pub grains_of-requires : goal.grains_of-requires
grains_of-requires c = good_below doubles fine_doubles _ (c.requires.1.each c.args.i c.requires.0)
