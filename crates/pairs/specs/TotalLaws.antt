-- What the theorems of proofs/TotalLaws.antt speak of. Definitions only.
use Rattle.std.specs.Prelude.{List, ℕ, ℤ, take}
use Rattle.kinds.specs.Limits.{doubles}
use Rattle.sums.specs.Sums.{sum_of}
use Rattle.pairs.specs.Pairs.{Pair, products_of}

-- the exact sum of the numbers of the first i pairs
abbrev pub sum_to : List Pair → ℕ → ℤ
sum_to cs i = sum_of doubles.format (products_of doubles.format (take i cs))
