-- `nearest::head::across` meets its contract: the shifts lose none of the upper word, and the sum fits. Assumes nothing.
use Rattle.lists.proofs.WordShifts.{across_is, across_lt}
use Rattle.nearest.proofs.head.across.Goals as goal

pub returns : goal.returns
returns c = across_is c.requires.1 c.args.a c.args.b c.requires.0 c.requires.2

pub overflow_add-result : goal.overflow_add-result
overflow_add-result c =
    record { fits = rw ((across_is c.requires.1 c.args.a c.args.b c.requires.0 c.requires.2)) (across_lt c.requires.1 c.requires.2 c.ranges.b.fits) }
