-- `bitset::has` meets its contract: the last digit of the shifted set. Assumes nothing.
use mathlib.Core.Path.{ap}
use Prim.Native.Nat.{ℕ, ◌/◌, ◌^◌}
use lib.Bits.{and_mask}
use lib.Dec.{eqb}
use Rattle.bitset.proofs.has.Goals as goal

pub returns : goal.returns
returns c = ap (λ (n : ℕ). eqb n 1) (and_mask (c.args.set / 2 ^ c.args.b) 1)
