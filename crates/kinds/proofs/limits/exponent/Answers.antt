-- `kinds::exponent` meets its contract: n + 1 has as many digits as the exponent of the least power of two at or above n + 2. Assumes nothing.
use mathlib.Core.Path.{◌≡◌, ◌∙◌, ap}
use Prim.Native.Nat.{◌+◌}
use native.Mathlib.Omega.{arith}
use lib.Count.{leading_le}
use Rattle.units.specs.Rounding.{ceil}
use Rattle.units.proofs.Ceiling.{ceil_next}
use Rattle.lists.proofs.LeadingZeros.{size_is}
use Rattle.kinds.proofs.limits.exponent.Goals as goal

pub overflow_sub-result : goal.overflow_sub-result
overflow_sub-result c = leading_le 64 _

pub returns : goal.returns
returns c =
    let e : c.args.n + 1 + 1 ≡ c.args.n + 2 = omega arith in
    size_is 64 (c.args.n + 1) (omega (arith, c.requires)) ∙ ceil_next (c.args.n + 1) ∙ ap ceil e
