-- `nearest::bits::float` meets its contract: a pattern below the infinity's is no NaN's. Assumes nothing.
use Rattle.std.specs.Prelude.{◌≡◌, cond}
use Rattle.std.proofs.Common.{◌∙◌}
use Rattle.std.specs.Float.Ieee.{top}
use Rattle.kinds.proofs.KnownLaws.{figures}
use Rattle.nearest.proofs.NearestBits.{bits_number}
use Rattle.nearest.proofs.bits.float.Goals.{then-b, else-b}
use Rattle.nearest.proofs.bits.float.Goals as goal

pub from_bits-requires : goal.from_bits-requires
from_bits-requires g c =
    let f = g.F.Floating.width.format in
    let sign : c.if-b.sign ≡ cond c.args.b.negative (top f) 0 = elim c.if-b.branch [
      | then-b w ↦ rw w.if-b.true (w.sign-is ∙ w.SIGN-sign.ensures ∙ (figures g.met.F.Floating.known).sign)
      | else-b w ↦ rw w.if-b.false w.sign-is
    ] in
    rw (c.from_word.ensures, sign) (bits_number f c.args.b.negative c.requires)
