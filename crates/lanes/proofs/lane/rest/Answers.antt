-- `lanes::lane::rest` meets its contract: the lowest 32 bits are the residue, of either sign. Assumes nothing.
use mathlib.Core.Path.{ap, ◌∙◌}
use native.Mathlib.Omega.{arith}
use lib.Bits.{and_mask, mask_lt}
use lib.IntN.{pos}
use mir.Syntax.{w64}
use mir.Val.{of_z}
use Rattle.lanes.proofs.Signed64.{back, low_bits}
use Rattle.lanes.proofs.lane.rest.Goals as goal

pub returns : goal.returns
returns c =
    let t = c.args.t in
    back (pos _) (omega (arith, mask_lt (of_z w64 t) 32)) ∙ ap pos (and_mask (of_z w64 t) 32 ∙ low_bits t c.ranges.t.sfits)
