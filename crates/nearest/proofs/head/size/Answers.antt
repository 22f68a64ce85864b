-- `nearest::head::size` meets its contract: 64 less the leading zeros. Assumes nothing.
use Rattle.std.proofs.Common.{◌∙◌}
use Rattle.lists.proofs.LeadingZeros.{size_is}
use Rattle.nearest.proofs.head.size.Goals as goal

pub returns : goal.returns
returns c = c.from.ensures ∙ size_is 64 c.args.x c.ranges.x.fits
