-- `bitset::full` meets its contract: the leading digits of a number of 64 ones. Assumes nothing.
use Rattle.lists.proofs.BitsetLaws.{full_shift}
use Rattle.bitset.proofs.full.Goals as goal

pub returns : goal.returns
returns c = full_shift 64 c.args.count c.requires.1
