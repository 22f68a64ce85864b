-- What pairs of numbers of one width fix, and at binary64 their limits (rule M3). Definitions only.
use Rattle.std.specs.Prelude.{◌≡◌, ℕ}
use Rattle.kinds.specs.Limits.{Width, doubles}
use Rattle.pairs.specs.declared.PairLimits.{PairLimits}

-- the width of the numbers; how many pairs there are at most; the patterns of the least and of the largest magnitude of a factor that isn't zero
pub record Pairing : Type 0 where
  pub width : Width
  pub length : ℕ
  pub least : ℕ
  pub most : ℕ

abbrev pub double_pairs : Pairing
double_pairs = record { width = doubles; length = 2047; least = 0x26F0000000000000; most = 0x58F0000000000000 }

-- the code's constants are these
pub record Tied (P : Pairing) (r : PairLimits) : Type 0 where
  pub length : r.length ≡ P.length
  pub least : r.least ≡ P.least
  pub most : r.most ≡ P.most
