-- `nearest::nearest_float` meets its contract: below the limit the nearest double's bits are a finite one's. Assumes nothing.
use Rattle.std.proofs.Common.{nat_abs, ◌∙◌}
use Rattle.nearest.proofs.NearestBits.{bits_finite, bits_nearest}
use Rattle.words.specs.Words.{whole_of}
use Rattle.nearest.proofs.nearest_float.Goals as goal

pub float-requires : goal.float-requires
float-requires g c =
    let n = nat_abs (whole_of c.args.register.now) in
    rw c.nearest_bits.ensures ((bits_finite g.F.Floating.width.format n).1 c.requires.1)

pub returns : goal.returns
returns g c = c.float.ensures ∙ rw c.nearest_bits.ensures (bits_nearest g.F.Floating.width.format c.args.zero (whole_of c.args.register.now) c.requires.1)
