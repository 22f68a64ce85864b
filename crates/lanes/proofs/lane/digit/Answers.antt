-- `lanes::lane::digit` meets its contract: what is kept is not negative. Assumes nothing.
use mathlib.Core.Path.{◌≡◌, refl}
use native.Mathlib.Omega.{arith}
use lib.IntN.{pos}
use mir.Syntax.{w64}
use mir.Val.{to_z, of_z}
use mir.ValLaws.{to_z-of_z}
use Rattle.lists.specs.Digits.{residue}
use Rattle.lanes.proofs.SettleLaws.{digit_lt}
use Rattle.lanes.proofs.Signed64.{back}
use Rattle.lanes.proofs.lane.digit.Goals as goal

pub returns : goal.returns
returns c =
    let kept : to_z w64 (of_z w64 c.rest.result) ≡ pos (residue 32 c.args.t) = let t = c.args.t in
    let e = rw (to_z-of_z w64 t c.ranges.t) at c.rest.ensures in
    rw e (back (pos (residue 32 t)) (omega (arith, digit_lt t))) in
    rw kept (refl, digit_lt c.args.t)
