-- What the theorems of proofs/FaultLaws.antt speak of. Definitions only.
use Rattle.std.specs.Prelude.{Bool, cond, ◌&&◌, ◌||◌, ℕ, ◌*◌, ◌<◌}
use Rattle.std.specs.Float.Ieee.{ones, hid}
use Rattle.pairs.specs.Limits.{Pairing}

-- ---- by the patterns without their signs, where those of the limits are below the infinity's
pub record Proper (P : Pairing) : Type 0 where
  pub least : P.least < ones P.width.format * hid P.width.format
  pub most : P.most < ones P.width.format * hid P.width.format

-- ---- the pair, where a and b say whether its numbers are finite, and r and s whether they are in range
abbrev pub chosen : Bool → Bool → Bool → Bool → ℕ
chosen a b r s = cond (a && b) (cond (r && s) 0 23) 2
