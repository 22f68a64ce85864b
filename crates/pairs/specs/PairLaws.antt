-- What the theorems of proofs/PairLaws.antt speak of. Definitions only.
use Rattle.std.specs.Prelude.{ℕ, ◌-◌, ◌*◌, ◌^◌, ◌≤◌}
use Rattle.std.specs.Float.Ieee.{low}
use Rattle.ieee.specs.ErrorFree.{Room}
use Rattle.judge.specs.Table.{size_of, most}
use Rattle.pairs.specs.Limits.{Pairing}

-- the limits are far enough from underflow and overflow for Algorithm 1.1, and from the limits on lists
pub record Roomy (P : Pairing) : Type 0 where
  pub l : ℕ
  pub h : ℕ
  pub above : 2 ^ l ≤ size_of P.width P.least
  pub below : size_of P.width P.most ≤ 2 ^ h
  pub room : Room P.width.format l h
  pub small : 2 ^ (2 * h - low P.width.format) ≤ most P.width
  pub twice : 2 * P.length ≤ P.width.length
