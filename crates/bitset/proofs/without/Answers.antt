-- `bitset::without` meets its contract: a mask of all digits but one. Assumes nothing.
use borrow.Author.Rules.{rules}
use Rattle.lists.proofs.BitsetLaws.{shift_mask}
use Rattle.bitset.proofs.without.Goals as goal

pub returns : goal.returns
returns c = shift_mask 64 c.args.set c.args.b (search rules) c.requires
