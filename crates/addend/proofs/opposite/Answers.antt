-- `addend::opposite` meets its contract: to turn the top bit is to add its weight, cut off. Assumes nothing.
use mathlib.Core.Path.{refl}
use Rattle.addend.specs.OppositePattern.{xor_sign}
use Rattle.kinds.specs.Limits.{doubles}
use Rattle.addend.proofs.opposite.Goals as goal

pub returns : goal.returns
returns c = xor_sign doubles.format 63 c.args.p refl c.ranges.p.fits
