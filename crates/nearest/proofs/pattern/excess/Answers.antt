-- `nearest::pattern::excess` meets its contract: the digits beyond those of a significand. Assumes nothing.
use Rattle.std.specs.Prelude.{◌≡◌}
use Rattle.std.proofs.Common.{arith}
use Rattle.std.specs.Float.Ieee.{prec}
use Rattle.kinds.proofs.KnownLaws.{figures}
use Rattle.nearest.specs.Sticky.{dropped_is}
use Rattle.nearest.proofs.pattern.excess.Goals as goal

pub returns : goal.returns
returns g c =
    let f = g.F.Floating.width.format in
    let e : c.from.result ≡ prec f = omega (arith, c.from.ensures, c.DIGITS.ensures, (figures g.met.F.Floating.known).digits) in
    rw (dropped_is (prec f) c.args.x, ← c.size.ensures, ← e) c.saturating_sub.ensures
